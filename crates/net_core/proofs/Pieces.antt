-- What elements give at their places, and links by their class.
use Rattle.std.proofs.Common.{◌≡◌, ℕ, zero, suc, ◌+◌, ◌<◌, Bool, true, false, cond, List, [], ◌∷◌, ◌++◌, length, get_or, take, nat_eq, Some, refl, sym, ap, subst, ◌∙◌, arith, append-nil, append_assoc}
use Rattle.std.specs.Prelude.{slice_set, filter}
use Rattle.std.specs.Global.{Vec}
use Rattle.std.proofs.lemmas.List.{take_more, length-take-le, get_or-set_same, get_or-set_other, length-set}
use Rattle.std.proofs.lemmas.List.Elements.{filter-append}
use Rattle.std.proofs.lemmas.Bool.{eqb-true, eq-eqb}
use Rattle.net_core.specs.declared.links.Link.{Link}
use Rattle.net_core.specs.Places.{Stands, IsThere}
use Rattle.net_core.specs.Links.{pieces_from, AreGrouped}
use Rattle.net_core.proofs.Standing.{Split, left, right, split, stands_left, stands_right}

pieces_push : {X A : Type 0} (f : ℕ → X → List A) (k : ℕ) (xs : List X) (x : X) → pieces_from f k (xs ++ x ∷ []) ≡ pieces_from f k xs ++ f (k + length xs) x
pieces_push f k [] x = let n : k ≡ k + 0 = omega arith in append-nil (f k x) ∙ ap (λ i. f i x) n
pieces_push f k (y ∷ xs) x =
    let n : k + 1 + length xs ≡ k + length (y ∷ xs) = omega arith in
    ap (λ zs. f k y ++ zs) (pieces_push f (k + 1) xs x ∙ ap (λ i. pieces_from f (k + 1) xs ++ f i x) n) ∙ sym (append_assoc (f k y) (pieces_from f (k + 1) xs) (f (k + length (y ∷ xs)) x))

pub pieces_next : {X A : Type 0} (f : ℕ → X → List A) (xs : List X) (k : ℕ) (d : X) → k < length xs → pieces_from f 0 (take (k + 1) xs) ≡ pieces_from f 0 (take k xs) ++ f k (get_or xs k d)
pieces_next f xs k d l =
    let n : 0 + length (take k xs) ≡ k = let m = length-take-le k xs (omega (arith, l)) in omega (arith, m) in
    ap (pieces_from f 0) (take_more xs k d l) ∙ pieces_push f 0 (take k xs) (get_or xs k d) ∙ ap (λ i. pieces_from f 0 (take k xs) ++ f i (get_or xs k d)) n

pub pieces_split : {X A : Type 0} (f : ℕ → X → List A) (k : ℕ) (xs : List X) (j : ℕ) (a : A) → Stands (pieces_from f k xs) j a → (i : ℕ) × (x : X) × Stands xs i x × IsThere (f (k + i) x) a
pieces_split f k [] j a s = absurd cc
pieces_split {X} {A} f k (x ∷ xs) j a s = by (pieces_split f (k + 1) xs) (split (f k x) (pieces_from f (k + 1) xs) j a s) where
  by : ((l : ℕ) (b : A) → Stands (pieces_from f (k + 1) xs) l b → (i : ℕ) × (y : X) × Stands xs i y × IsThere (f (k + 1 + i) y) b) → Split (f k x) (pieces_from f (k + 1) xs) j a
      → (i : ℕ) × (y : X) × Stands (x ∷ xs) i y × IsThere (f (k + i) y) a
  by rest (left here) = let n : k ≡ k + 0 = omega arith in (0, x, refl, subst (λ i. IsThere (f i x) a) n (j, here))
  by rest (right l e there) = let w = rest l a there in let n : k + 1 + w.0 ≡ k + suc w.0 = omega arith in (suc w.0, w.1, w.2, subst (λ i. IsThere (f i w.1) a) n w.3)

pub pieces_join : {X A : Type 0} (f : ℕ → X → List A) (k : ℕ) (xs : List X) (i : ℕ) (x : X) (a : A) → Stands xs i x → IsThere (f (k + i) x) a → IsThere (pieces_from f k xs) a
pieces_join f k [] i x a s t = absurd cc
pieces_join {X} {A} f k (y ∷ xs) zero x a s t =
    let e : Some y ≡ Some x = s in let same : y ≡ x = cc in let n : k + 0 ≡ k = omega arith in
    let h : IsThere (f k y) a = subst (λ (z : X). IsThere (f k z) a) (sym same) (subst (λ i. IsThere (f i x) a) n t) in
    (h.0, stands_left (f k y) (pieces_from f (k + 1) xs) h.0 a h.1)
pieces_join {X} {A} f k (y ∷ xs) (suc i) x a s t =
    let n : k + suc i ≡ k + 1 + i = omega arith in
    let h = pieces_join f (k + 1) xs i x a s (subst (λ i. IsThere (f i x) a) n t) in
    (length (f k y) + h.0, stands_right (f k y) (pieces_from f (k + 1) xs) h.0 a h.1)

pub filter_there : {X : Type 0} (p : X → Bool) (xs : List X) (x : X) → IsThere (filter p xs) x → IsThere xs x × (p x ≡ true)
filter_there p [] x t = absurd (nothing t.0 t.1) where
  nothing : (k : ℕ) → Stands (filter p []) k x → ⊥
  nothing k s = absurd cc
filter_there {X} p (y ∷ ys) x t = by (filter_there p ys x) (p y) refl t.0 t.1 where
  by : (IsThere (filter p ys) x → IsThere ys x × (p x ≡ true)) → (b : Bool) → p y ≡ b → (k : ℕ) → Stands (cond b (y ∷ filter p ys) (filter p ys)) k x → IsThere (y ∷ ys) x × (p x ≡ true)
  by rest true e zero s = let f : Some y ≡ Some x = s in let same : y ≡ x = cc in ((0, s), ap p (sym same) ∙ e)
  by rest true e (suc k) s = let r = rest (k, s) in ((suc r.0.0, r.0.1), r.1)
  by rest false e k s = let r = rest (k, s) in ((suc r.0.0, r.0.1), r.1)

pub there_filter : {X : Type 0} (p : X → Bool) (xs : List X) (k : ℕ) (x : X) → Stands xs k x → p x ≡ true → IsThere (filter p xs) x
there_filter p [] k x s e = absurd cc
there_filter {X} p (y ∷ ys) k x s e = by (there_filter p ys) (p y) refl k s where
  by : ((k : ℕ) (x : X) → Stands ys k x → p x ≡ true → IsThere (filter p ys) x) → (b : Bool) → p y ≡ b → (k : ℕ) → Stands (y ∷ ys) k x → IsThere (cond b (y ∷ filter p ys) (filter p ys)) x
  by rest true f zero s = (0, s)
  by rest true f (suc k) s = let r = rest k x s e in (suc r.0, r.1)
  by rest false f zero s = let g : Some y ≡ Some x = s in let same : y ≡ x = cc in let no : true ≡ false = sym e ∙ ap p (sym same) ∙ f in absurd cc
  by rest false f (suc k) s = rest k x s e

filter_push : {X : Type 0} (p : X → Bool) (xs : List X) (x : X) → filter p (xs ++ x ∷ []) ≡ filter p xs ++ cond (p x) (x ∷ []) []
filter_push p xs x = filter-append p xs (x ∷ [])

-- one more link in its group
pub grouped_step : (links : List Link) (l : Link) (groups : List (Vec Link)) (old new : Vec Link) → AreGrouped links groups → l.output < length groups → old ≡ get_or groups l.output old → new.items ≡ old.items ++ l ∷ []
    → AreGrouped (links ++ l ∷ []) (slice_set groups l.output new)
grouped_step links l groups old new are less is pushed = record { each = λ c d m. by c d m (nat_eq l.output c) refl } where
  same : old.items ≡ filter (λ (x : Link). nat_eq x.output l.output) links
  same = ap (λ (v : Vec Link). v.items) is ∙ are.each l.output old less

  by : (c : ℕ) (d : Vec Link) → c < length (slice_set groups l.output new) → (b : Bool) → nat_eq l.output c ≡ b → (get_or (slice_set groups l.output new) c d).items ≡ filter (λ (x : Link). nat_eq x.output c) (links ++ l ∷ [])
  by c d m true e =
      let at : l.output ≡ c = eqb-true l.output c e in
      let push : filter (λ (x : Link). nat_eq x.output c) (links ++ l ∷ []) ≡ filter (λ (x : Link). nat_eq x.output c) links ++ l ∷ [] =
      filter_push (λ (x : Link). nat_eq x.output c) links l ∙ ap (λ b. filter (λ (x : Link). nat_eq x.output c) links ++ cond b (l ∷ []) []) e in
      ap (λ k. (get_or (slice_set groups l.output new) k d).items) (sym at) ∙ ap (λ (v : Vec Link). v.items) (get_or-set_same groups l.output new d less)
      ∙ pushed ∙ ap (λ (xs : List Link). xs ++ l ∷ []) (same ∙ ap (λ k. filter (λ (x : Link). nat_eq x.output k) links) at) ∙ sym push
  by c d m false e =
      let push : filter (λ (x : Link). nat_eq x.output c) (links ++ l ∷ []) ≡ filter (λ (x : Link). nat_eq x.output c) links =
      filter_push (λ (x : Link). nat_eq x.output c) links l ∙ ap (λ b. filter (λ (x : Link). nat_eq x.output c) links ++ cond b (l ∷ []) []) e ∙ append-nil (filter (λ (x : Link). nat_eq x.output c) links) in
      let n = length-set groups l.output new in
      ap (λ (v : Vec Link). v.items) (get_or-set_other groups l.output c new d (λ q. let no : true ≡ false = sym (eq-eqb l.output c (sym q)) ∙ e in absurd cc)) ∙ are.each c d (omega (arith, m, n)) ∙ sym push
