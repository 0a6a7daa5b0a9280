-- Outputs that are shown one after another.
use Rattle.std.proofs.Common.{◌≡◌, ℕ, zero, suc, ◌+◌, ◌*◌, ◌^◌, ◌<◌, Bool, true, false, List, [], ◌∷◌, ◌++◌, map, length, drop, refl, sym, ◌∙◌, ap, arith, append_assoc, append-nil, add-one, drop-cons, length-append, if◌then◌else◌}
use Rattle.std.specs.List.{slice_index_or}
use Rattle.std.specs.Ordering.{nat_cmp}
use Rattle.std.specs.BTreeSet.{BTreeSet, contains}
use Rattle.bool_expr.specs.Support.{Knows}
use Rattle.graph_theory.specs.Graph.{Node, inv}
use Rattle.subject_table.specs.declared.table.Node.{Node as Kind}
use Rattle.subject_table.specs.declared.table.Node.TheVariants as kind
use Rattle.subject_table.specs.View.{node_view}
use Rattle.subject_graph.specs.Subject.{is_taken, roots_apart, inverters_apart}
use Rattle.subject_graph.specs.Stages.{ShowsBehind}

-- what is left of the outputs from number i on, behind what was shown, is all
pub record Shows (old new : List Kind) (first held : ℕ) (plain : List ℕ) (met : BTreeSet ℕ) (shown : List ℕ) (i : ℕ) : Type 0 where
  pub before : List ℕ
  pub knows : Knows met before
  pub nodes : map node_view new ++ inverters_apart first (held + length new) before (drop i plain)
      ≡ map node_view old ++ inverters_apart first (held + length old) [] plain
  pub roots : shown ++ roots_apart first (held + length new) before (drop i plain) ≡ roots_apart first (held + length old) [] plain
  pub room : held + length new + 2 * length (drop i plain) < 2 ^ 32

pub shows_none : (old : List Kind) (first held : ℕ) (plain : List ℕ) (met : BTreeSet ℕ) → met.keys ≡ [] → held + length old + 2 * length plain < 2 ^ 32
    → Shows old old first held plain met [] 0
shows_none old first held plain met none small = record {
  before = [];
  knows = λ k. ap (λ (ks : List ℕ). contains nat_cmp (record { keys = ks }) k) none;
  nodes = refl;
  roots = refl;
  room = small;
}

rest-cons : (plain : List ℕ) (i a : ℕ) → i < length plain → a ≡ slice_index_or plain i a → drop i plain ≡ a ∷ drop (i + 1) plain
rest-cons plain i a h is = drop-cons plain i a h ∙ ap (λ x. x ∷ drop (suc i) plain) (sym is) ∙ ap (λ j. a ∷ drop j plain) (sym (add-one i))

-- which number stands for what is past the end makes nothing of what is within
pub index_same : (xs : List ℕ) (i d e : ℕ) → i < length xs → slice_index_or xs i d ≡ slice_index_or xs i e
index_same [] i d e h = absurd (omega arith)
index_same (x ∷ xs) zero d e h = refl
index_same (x ∷ xs) (suc i) d e h = index_same xs i d e (omega arith)

map-append : {A B : Type 0} (f : A → B) (xs ys : List A) → map f (xs ++ ys) ≡ map f xs ++ map f ys
map-append f [] ys = refl
map-append {B = B} f (x ∷ xs) ys = ap (λ (zs : List B). f x ∷ zs) (map-append f xs ys)

-- there is room for two more
pub room_for_two : (old new : List Kind) (first held : ℕ) (plain : List ℕ) (met : BTreeSet ℕ) (shown : List ℕ) (i a : ℕ) → i < length plain → a ≡ slice_index_or plain i a
    → Shows old new first held plain met shown i → held + length new + 1 < 2 ^ 32
room_for_two old new first held plain met shown i a h is s =
    let rest = ap (λ (xs : List ℕ). length xs) (rest-cons plain i a h is) in let small = s.room in omega (arith, rest, small)

-- an output that shows its own node
pub shows_itself : (old new : List Kind) (first held : ℕ) (plain : List ℕ) (met more : BTreeSet ℕ) (shown : List ℕ) (i a : ℕ) (taken : Bool) → i < length plain
    → a ≡ slice_index_or plain i a → ((before : List ℕ) → Knows met before → Knows more (a ∷ before) × (taken ≡ is_taken first before a)) → taken ≡ false
    → Shows old new first held plain met shown i → Shows old new first held plain more (shown ++ a ∷ []) (i + 1)
shows_itself old new first held plain met more shown i a taken h is meets free_is s =
    let n = held + length new in
    let rest = rest-cons plain i a h is in
    let m = meets s.before s.knows in
    let free : is_taken first s.before a ≡ false = sym m.1 ∙ free_is in
    let made : roots_apart first n s.before (drop i plain) ≡ a ∷ roots_apart first n (a ∷ s.before) (drop (i + 1) plain) =
    ap (roots_apart first n s.before) rest
    ∙ ap (λ (b : Bool). if b then (n + 1) ∷ roots_apart first (n + 2) (a ∷ s.before) (drop (i + 1) plain) else a ∷ roots_apart first n (a ∷ s.before) (drop (i + 1) plain)) free in
    let none : inverters_apart first n s.before (drop i plain) ≡ inverters_apart first n (a ∷ s.before) (drop (i + 1) plain) =
    ap (inverters_apart first n s.before) rest
    ∙ ap (λ (b : Bool). if b then inv a ∷ inv n ∷ inverters_apart first (n + 2) (a ∷ s.before) (drop (i + 1) plain) else inverters_apart first n (a ∷ s.before) (drop (i + 1) plain)) free in
    record {
      before = a ∷ s.before;
      knows = m.0;
      nodes = ap (λ (xs : List Node). map node_view new ++ xs) (sym none) ∙ s.nodes;
      roots = append_assoc shown (a ∷ []) (roots_apart first n (a ∷ s.before) (drop (i + 1) plain)) ∙ ap (λ (xs : List ℕ). shown ++ xs) (sym made) ∙ s.roots;
      room = let all = ap (λ (xs : List ℕ). length xs) rest in let small = s.room in omega (arith, all, small);
    }

-- an output whose node is taken
pub shows_through : (old new next : List Kind) (first held : ℕ) (plain : List ℕ) (met more : BTreeSet ℕ) (shown : List ℕ) (i a root : ℕ) (taken_is : Bool) → i < length plain
    → a ≡ slice_index_or plain i a → ((before : List ℕ) → Knows met before → Knows more (a ∷ before) × (taken_is ≡ is_taken first before a)) → taken_is ≡ true
    → next ≡ new ++ kind.Inv a ∷ kind.Inv (held + length new) ∷ [] → root ≡ held + length new + 1
    → Shows old new first held plain met shown i → Shows old next first held plain more (shown ++ root ∷ []) (i + 1)
shows_through old new next first held plain met more shown i a root taken_is h is meets test is_next is_root s =
    let n = held + length new in
    let rest = rest-cons plain i a h is in
    let m = meets s.before s.knows in
    let taken : is_taken first s.before a ≡ true = sym m.1 ∙ test in
    let longer : length next ≡ length new + 2 = ap (λ (xs : List Kind). length xs) is_next ∙ length-append new (kind.Inv a ∷ kind.Inv n ∷ []) in
    let place : n + 2 ≡ held + length next = omega (arith, longer) in
    let made : roots_apart first n s.before (drop i plain) ≡ root ∷ roots_apart first (held + length next) (a ∷ s.before) (drop (i + 1) plain) =
    ap (roots_apart first n s.before) rest
    ∙ ap (λ (b : Bool). if b then (n + 1) ∷ roots_apart first (n + 2) (a ∷ s.before) (drop (i + 1) plain) else a ∷ roots_apart first n (a ∷ s.before) (drop (i + 1) plain)) taken
    ∙ ap (λ (r : ℕ). r ∷ roots_apart first (n + 2) (a ∷ s.before) (drop (i + 1) plain)) (sym is_root)
    ∙ ap (λ (k : ℕ). root ∷ roots_apart first k (a ∷ s.before) (drop (i + 1) plain)) place in
    let further : inverters_apart first n s.before (drop i plain) ≡ inv a ∷ inv n ∷ inverters_apart first (held + length next) (a ∷ s.before) (drop (i + 1) plain) =
    ap (inverters_apart first n s.before) rest
    ∙ ap (λ (b : Bool). if b then inv a ∷ inv n ∷ inverters_apart first (n + 2) (a ∷ s.before) (drop (i + 1) plain) else inverters_apart first n (a ∷ s.before) (drop (i + 1) plain)) taken
    ∙ ap (λ (k : ℕ). inv a ∷ inv n ∷ inverters_apart first k (a ∷ s.before) (drop (i + 1) plain)) place in
    let two : map node_view next ≡ map node_view new ++ inv a ∷ inv n ∷ [] = ap (map node_view) is_next ∙ map-append node_view new (kind.Inv a ∷ kind.Inv n ∷ []) in
    let last = inverters_apart first (held + length next) (a ∷ s.before) (drop (i + 1) plain) in
    record {
      before = a ∷ s.before;
      knows = m.0;
      nodes =
          ap (λ (xs : List Node). xs ++ last) two ∙ append_assoc (map node_view new) (inv a ∷ inv n ∷ []) last
          ∙ ap (λ (xs : List Node). map node_view new ++ xs) (sym further) ∙ s.nodes;
      roots =
          append_assoc shown (root ∷ []) (roots_apart first (held + length next) (a ∷ s.before) (drop (i + 1) plain)) ∙ ap (λ (xs : List ℕ). shown ++ xs) (sym made) ∙ s.roots;
      room = let all = ap (λ (xs : List ℕ). length xs) rest in let small = s.room in omega (arith, all, small, longer);
    }

pub shows_end : (old new : List Kind) (first held : ℕ) (plain : List ℕ) (met : BTreeSet ℕ) (shown : List ℕ) (i : ℕ) → drop i plain ≡ [] → Shows old new first held plain met shown i
    → ShowsBehind old new first held plain shown
shows_end old new first held plain met shown i end s =
    let n = held + length new in
    record {
      nodes = sym (append-nil (map node_view new)) ∙ ap (λ (xs : List ℕ). map node_view new ++ inverters_apart first n s.before xs) (sym end) ∙ s.nodes;
      shown = sym (append-nil shown) ∙ ap (λ (xs : List ℕ). shown ++ roots_apart first n s.before xs) (sym end) ∙ s.roots;
    }
