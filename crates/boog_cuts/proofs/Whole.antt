-- The whole table, node by node.
use Rattle.std.proofs.Common.{◌≡◌, ◌⊎◌, inl, inr, ℕ, ◌+◌, ◌<◌, ◌≤◌, Bool, List, [], ◌∷◌, ◌++◌, map, length, take, get_or, ap, refl, sym, subst, ◌∙◌, arith, length-append}
use Prim.Native.Nat.{zero, suc}
use Rattle.net_theory.specs.Sources.{IsNumber}
use Rattle.net_theory.proofs.Basics.{number_below}
use Rattle.graph_theory.specs.Graph.{Node}
use Rattle.cell_match.specs.declared.cut.Cut.{Cut}
use Rattle.boog_cuts.specs.Reads.{Reaches, itself, step}
use Rattle.boog_cuts.specs.Cuts.{AllGive, AllLeaves, AreCuts, IsLeafBelow, AreNodeCuts, HasDirect, IsCutTable}
use Rattle.boog_cuts.proofs.Growing.{number_front}

-- the last of a list with one more, at its place
number_last : {A : Type 0} (xs : List A) (y : A) (i : ℕ) (x : A) → IsNumber (xs ++ y ∷ []) i x → IsNumber xs i x ⊎ ((i ≡ length xs) × (x ≡ y))
number_last [] y zero x h = inr (refl, h)
number_last [] y (suc i) x h = absurd h
number_last (z ∷ xs) y zero x h = inl h
number_last (z ∷ xs) y (suc i) x h = elim (number_last xs y i x h) [
  | inl in_front ↦ inl in_front
  | inr at_end ↦ inr (ap suc at_end.0, at_end.1)
]

number_at_end : {A : Type 0} (xs : List A) (y : A) → IsNumber (xs ++ y ∷ []) (length xs) y
number_at_end [] y = refl
number_at_end (z ∷ xs) y = number_at_end xs y

pub take_one_more : {A : Type 0} (xs : List A) (i : ℕ) (x : A) → IsNumber xs i x → take (i + 1) xs ≡ take i xs ++ x ∷ []
take_one_more {A} xs i x h = ap (λ (n : ℕ). take n xs) (let e : i + 1 ≡ suc i = omega arith in e) ∙ go xs i h where
  go : (xs : List A) (i : ℕ) → IsNumber xs i x → take (suc i) xs ≡ take i xs ++ x ∷ []
  go [] i h = absurd h
  go (y ∷ xs) zero h = ap (λ (z : A). z ∷ []) (sym h)
  go (y ∷ xs) (suc i) h = ap (λ (zs : List A). y ∷ zs) (go xs i h)

pub take_long : {A : Type 0} (xs : List A) (i : ℕ) → i ≤ length xs → length (take i xs) ≡ i
take_long [] zero h = refl
take_long [] (suc i) h = absurd (omega arith)
take_long (x ∷ xs) zero h = refl
take_long (x ∷ xs) (suc i) h = let e = take_long xs i (omega arith) in omega arith

-- what is reached, in longer lists of nodes and by way of another number
moved : (n a x : ℕ) → Reaches n [] a x → Reaches (n + 1) [] a x
moved n a x itself = itself
moved n a x (step j kind r at is) = absurd at

reached_same : (held : ℕ) (nodes : List Node) (a x : ℕ) → x ≡ a → Reaches held nodes a x
reached_same held nodes a x e = subst (λ (n : ℕ). Reaches held nodes a n) (sym e) itself

reached_more : (held : ℕ) (nodes more : List Node) (a x : ℕ) → Reaches held nodes a x → Reaches held (nodes ++ more) a x
reached_more held nodes more a x itself = itself
reached_more held nodes more a x (step j kind r at is) = step j kind (reached_more held nodes more a (held + j) r) (number_front nodes more j kind at) is

pub reached_through : (held : ℕ) (nodes : List Node) (a b x : ℕ) → Reaches held nodes a b → Reaches held nodes b x → Reaches held nodes a x
reached_through held nodes a b x first itself = first
reached_through held nodes a b x first (step j kind r at is) = step j kind (reached_through held nodes a b (held + j) first r) at is

module _ {K : ℕ} where
  pub table_none : IsCutTable {K = K} 0 [] []
  table_none = record { many = omega arith; cuts = λ a list h. absurd h; value = λ f v a list h. absurd h; reached = λ a list h. absurd h; direct = λ j kind list h. absurd h }

  pub table_input : (n : ℕ) (lists next : List (List (Cut K))) (own : List (Cut K)) → IsCutTable n [] lists → next ≡ lists ++ own ∷ []
      → AreCuts n own → ((f : ℕ → Bool) → AllGive f (f n) own) → AllLeaves (λ x. x ≡ n) own → IsCutTable (n + 1) [] next
  table_input n lists next own is more are give only = subst (λ (ls : List (List (Cut K))). IsCutTable (n + 1) [] ls) (sym more) record {
    many = let e = length-append lists (own ∷ []) in let m = is.many in omega arith;
    cuts = λ a list h. elim (number_last lists own a list h) [
      | inl in_front ↦ is.cuts a list in_front
      | inr at_end ↦
          let m = is.many in
          let here : n ≡ a = omega (arith, at_end.0) in
          subst (λ (k : ℕ). AreCuts k list) here (subst (λ (l : List (Cut K)). AreCuts n l) (sym at_end.1) are)
    ];
    value = λ f v a list h. elim (number_last lists own a list h) [
      | inl in_front ↦ is.value f (λ j kind k. absurd k) a list in_front
      | inr at_end ↦
          let m = is.many in
          let here : n ≡ a = omega (arith, at_end.0) in
          subst (λ (k : ℕ). AllGive f (f k) list) here (subst (λ (l : List (Cut K)). AllGive f (f n) l) (sym at_end.1) (give f))
    ];
    reached = λ a list h i c x at some. elim (number_last lists own a list h) [
      | inl in_front ↦ moved n a x (is.reached a list in_front i c x at some)
      | inr at_end ↦
          let m = is.many in
          let here : n ≡ a = omega (arith, at_end.0) in
          reached_same (n + 1) [] a x (only i c x (subst (λ (l : List (Cut K)). IsNumber l i c) at_end.1 at) some ∙ here)
    ];
    direct = λ j kind list h. absurd h;
  }

  -- a leaf of a cut of the last node
  leaf_reached : (held i : ℕ) (nodes : List Node) (kind : Node) (lists : List (List (Cut K))) (number x : ℕ) → IsCutTable held nodes lists
      → IsNumber (nodes ++ kind ∷ []) i kind → number ≡ held + i → (x ≡ number) ⊎ IsLeafBelow kind lists x
      → Reaches held (nodes ++ kind ∷ []) number x
  leaf_reached held i nodes kind lists number x is at is_number leaf = elim leaf [
    | inl same ↦ reached_same held (nodes ++ kind ∷ []) number x same
    | inr by ↦
        let here : Reaches held (nodes ++ kind ∷ []) number (held + i) = reached_same held (nodes ++ kind ∷ []) number (held + i) (sym is_number) in
        reached_through held (nodes ++ kind ∷ []) number by.son x (step i kind here at by.is_read)
        (reached_more held nodes (kind ∷ []) by.son x (is.reached by.son by.list by.listed by.place by.cut x by.at by.leaf))
  ]

  pub table_node : (held i : ℕ) (nodes : List Node) (kind : Node) (lists next : List (List (Cut K))) (own : List (Cut K)) (number : ℕ)
      → IsCutTable held (take i nodes) lists → next ≡ lists ++ own ∷ [] → IsNumber nodes i kind → number ≡ held + i
      → AreNodeCuts kind number lists own → IsCutTable held (take (i + 1) nodes) next
  table_node held i nodes kind lists next own number is more at is_number made =
      let low = number_below nodes i kind at in
      let long = take_long nodes i (omega arith) in
      let m = is.many in
      let whole = take_one_more nodes i kind at in
      let count : length lists ≡ number = omega arith in
      subst (λ (ls : List (List (Cut K))). IsCutTable held (take (i + 1) nodes) ls) (sym more)
      (subst (λ (ns : List Node). IsCutTable held ns (lists ++ own ∷ [])) (sym whole) record {
        many = let e = length-append lists (own ∷ []) in let f = length-append (take i nodes) (kind ∷ []) in omega arith;
        cuts = λ a list h. elim (number_last lists own a list h) [
          | inl in_front ↦ is.cuts a list in_front
          | inr at_end ↦
              let here : number ≡ a = omega (arith, at_end.0) in
              subst (λ (k : ℕ). AreCuts k list) here (subst (λ (l : List (Cut K)). AreCuts number l) (sym at_end.1) made.cuts)
        ];
        value = λ f values a list h.
            let before = is.value f (λ j k n. values j k (number_front (take i nodes) (kind ∷ []) j k n)) in
            let last : IsNumber (take i nodes ++ kind ∷ []) i kind = subst (λ (n : ℕ). IsNumber (take i nodes ++ kind ∷ []) n kind) long (number_at_end (take i nodes) kind) in
            elim (number_last lists own a list h) [
              | inl in_front ↦ before a list in_front
              | inr at_end ↦
                  let here : number ≡ a = omega (arith, at_end.0) in
                  subst (λ (k : ℕ). AllGive f (f k) list) here (subst (λ (l : List (Cut K)). AllGive f (f number) l) (sym at_end.1)
                  (made.value f before (ap f is_number ∙ values i kind last)))
            ];
        reached = λ a list h k c x at_k some.
            let last : IsNumber (take i nodes ++ kind ∷ []) i kind = subst (λ (n : ℕ). IsNumber (take i nodes ++ kind ∷ []) n kind) long (number_at_end (take i nodes) kind) in
            elim (number_last lists own a list h) [
              | inl in_front ↦ reached_more held (take i nodes) (kind ∷ []) a x (is.reached a list in_front k c x at_k some)
              | inr at_end ↦
                  let here : number ≡ a = omega (arith, at_end.0) in
                  subst (λ (n : ℕ). Reaches held (take i nodes ++ kind ∷ []) n x) here
                  (leaf_reached held i (take i nodes) kind lists number x is last is_number
                  (made.leaves k c x (subst (λ (l : List (Cut K)). IsNumber l k c) at_end.1 at_k) some))
            ];
        direct = λ j other list n h. elim (number_last (take i nodes) kind j other n) [
          | inl in_front ↦
              let below = number_below (take i nodes) j other in_front in
              elim (number_last lists own (held + j) list h) [
                | inl first ↦ is.direct j other list in_front first
                | inr at_end ↦ let e = at_end.0 in absurd (omega arith)
              ]
          | inr last ↦
              let e = last.0 in
              elim (number_last lists own (held + j) list h) [
                | inl first ↦ let b = number_below lists (held + j) list first in absurd (omega arith)
                | inr at_end ↦ subst (λ (k : Node). HasDirect k list) (sym last.1) (subst (λ (l : List (Cut K)). HasDirect kind l) (sym at_end.1) made.direct)
              ]
        ];
      })

pub map_end : {A B : Type 0} (f : A → B) (xs : List A) (y : A) → map f (xs ++ y ∷ []) ≡ map f xs ++ f y ∷ []
map_end f [] y = refl
map_end {A} {B} f (x ∷ xs) y = ap (λ (zs : List B). f x ∷ zs) (map_end f xs y)

pub map_long : {A B : Type 0} (f : A → B) (xs : List A) → length (map f xs) ≡ length xs
map_long f [] = refl
map_long f (x ∷ xs) = let e = map_long f xs in omega arith

pub read_number : {A : Type 0} (xs : List A) (i : ℕ) (d : A) → i < length xs → IsNumber xs i (get_or xs i d)
read_number [] i d h = absurd (omega arith)
read_number (x ∷ xs) zero d h = refl
read_number (x ∷ xs) (suc i) d h = read_number xs i d (omega arith)
