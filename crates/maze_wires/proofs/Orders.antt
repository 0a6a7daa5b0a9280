-- Lists that are sorted by a key of three numbers.
use Rattle.std.proofs.Common.{◌≡◌, ◌≢◌, ℕ, suc, ◌<◌, Bool, true, false, ◌&&◌, eqb, List, [], ◌∷◌, get_or, refl, sym, ap, ◌∙◌, subst, arith}
use Rattle.std.specs.Prelude.{◌↔◌, AllPairs, IsTrue}
use Rattle.std.specs.List.{dedup, IsDistinct}
use Rattle.std.specs.List.Sorted.{IsPermutation, IsSortedByKey, IsStrictlySortedBy}
use Rattle.std.specs.Cmp.{IsTotalOrder, IsEquivalence}
use Rattle.std.specs.Ordering.{MatchOrdering, nat_cmp, ordering_then, ordering_reverse, is_eq, is_lt}
use Rattle.std.specs.declared.cmp.Ordering.{Ordering}
use Rattle.std.specs.declared.cmp.Ordering.TheVariants.{Less, Equal, Greater}
use Rattle.std.proofs.lemmas.Bool.{and_left, and_right, and_from, ne_eqb, eq-eqb, eqb-true}
use Rattle.std.proofs.lemmas.Bool.Decides.{nat_tests}
use Rattle.std.proofs.lemmas.Cmp.{ranked, then_total, on_total, nat_cmp_total, and_equiv, on_equiv, nat_eq_equiv}
use Rattle.std.proofs.lemmas.List.Kept.{Contains-dedup, Contains-from_dedup, IsStrictlySortedBy-dedup}
use Rattle.std.proofs.lemmas.List.Sorted.{Contains-permutation, sorted_far, ranks_by, IsPermutation-sym}
use Rattle.std.proofs.lemmas.List.Elements.{recursion_from_All}
use Rattle.std.proofs.lemmas.Map.Keys.{Less-from_sorted, IsDistinct-IsPermutation, apart_from_distinct}
use Rattle.vlsi_base.specs.Member.{In}
use Rattle.grid_core.specs.declared.grid.Node.{Node}
use Rattle.maze_drawing.specs.Wiring.{precede}
use Rattle.maze_drawing.specs.Merge.{line_of, place_of}
use Rattle.maze_drawing.proofs.Unique.{node_same}
use Rattle.maze_drawing.proofs.Merging.{key_same}
use Rattle.maze_drawing.proofs.Rows.{In_contains, contains_In, permuted_in}
use Rattle.maze_wires.specs.declared.wires.Wire.{Wire}

abbrev pub Key : Type 0
Key = ℕ × ℕ × ℕ

abbrev pub key_cmp : Key → Key → Ordering
key_cmp x y = ordering_then (ordering_then (nat_cmp x.0 y.0) (nat_cmp x.1 y.1)) (nat_cmp x.2 y.2)

abbrev pub key_eq : Key → Key → Bool
key_eq x y = (eqb x.0 y.0 && eqb x.1 y.1) && eqb x.2 y.2

abbrev pub key_precedes : Key → Key → Bool
key_precedes x y = precede x.0 x.1 x.2 y.0 y.1 y.2

pub key_total : IsTotalOrder key_cmp
key_total = then_total (then_total (on_total (λ (t : Key). t.0) nat_cmp_total) (on_total (λ (t : Key). t.1) nat_cmp_total)) (on_total (λ (t : Key). t.2) nat_cmp_total)

key_equiv : IsEquivalence key_eq
key_equiv = and_equiv (and_equiv (on_equiv (λ (t : Key). t.0) nat_eq_equiv) (on_equiv (λ (t : Key). t.1) nat_eq_equiv)) (on_equiv (λ (t : Key). t.2) nat_eq_equiv)

-- ---- what the order says of numbers
less_by : (a b c x y z : ℕ) (o1 o2 o3 : Ordering) → MatchOrdering o1 (a < x) (a ≡ x) (x < a) → MatchOrdering o2 (b < y) (b ≡ y) (y < b) → MatchOrdering o3 (c < z) (c ≡ z) (z < c)
    → ordering_then (ordering_then o1 o2) o3 ≡ Less → precede a b c x y z ≡ true
less_by a b c x y z Less o2 o3 m1 m2 m3 e = grind (arith, nat_tests)
less_by a b c x y z Equal Less o3 m1 m2 m3 e = grind (arith, nat_tests)
less_by a b c x y z Equal Equal Less m1 m2 m3 e = grind (arith, nat_tests)
less_by a b c x y z Equal Equal Equal m1 m2 m3 e = absurd (cc e)
less_by a b c x y z Equal Equal Greater m1 m2 m3 e = absurd (cc e)
less_by a b c x y z Equal Greater o3 m1 m2 m3 e = absurd (cc e)
less_by a b c x y z Greater o2 o3 m1 m2 m3 e = absurd (cc e)

pub less_is : (x y : Key) → key_cmp x y ≡ Less → key_precedes x y ≡ true
less_is x y e =
    less_by x.0 x.1 x.2 y.0 y.1 y.2 (nat_cmp x.0 y.0) (nat_cmp x.1 y.1) (nat_cmp x.2 y.2)
    (ranked x.0 y.0 _ refl) (ranked x.1 y.1 _ refl) (ranked x.2 y.2 _ refl) e

ties_by : (a b c x y z : ℕ) (o1 o2 o3 : Ordering) → MatchOrdering o1 (a < x) (a ≡ x) (x < a) → MatchOrdering o2 (b < y) (b ≡ y) (y < b) → MatchOrdering o3 (c < z) (c ≡ z) (z < c)
    → ((eqb a x && eqb b y) && eqb c z) ≡ is_eq (ordering_then (ordering_then o1 o2) o3)
ties_by a b c x y z Less o2 o3 m1 m2 m3 = and_left (eqb a x && eqb b y) (eqb c z) (and_left (eqb a x) (eqb b y) (ne_eqb a x (λ e. omega (arith, m1, e))))
ties_by a b c x y z Equal Less o3 m1 m2 m3 = and_left (eqb a x && eqb b y) (eqb c z) (and_right (eqb a x) (eqb b y) (ne_eqb b y (λ e. omega (arith, m2, e))))
ties_by a b c x y z Equal Equal Less m1 m2 m3 = and_right (eqb a x && eqb b y) (eqb c z) (ne_eqb c z (λ e. omega (arith, m3, e)))
ties_by a b c x y z Equal Equal Equal m1 m2 m3 = and_from (eqb a x && eqb b y) (eqb c z) (and_from (eqb a x) (eqb b y) (eq-eqb a x m1) (eq-eqb b y m2)) (eq-eqb c z m3)
ties_by a b c x y z Equal Equal Greater m1 m2 m3 = and_right (eqb a x && eqb b y) (eqb c z) (ne_eqb c z (λ e. omega (arith, m3, e)))
ties_by a b c x y z Equal Greater o3 m1 m2 m3 = and_left (eqb a x && eqb b y) (eqb c z) (and_right (eqb a x) (eqb b y) (ne_eqb b y (λ e. omega (arith, m2, e))))
ties_by a b c x y z Greater o2 o3 m1 m2 m3 = and_left (eqb a x && eqb b y) (eqb c z) (and_left (eqb a x) (eqb b y) (ne_eqb a x (λ e. omega (arith, m1, e))))

pub key_ties : (x y : Key) → key_eq x y ≡ is_eq (key_cmp x y)
key_ties x y =
    ties_by x.0 x.1 x.2 y.0 y.1 y.2 (nat_cmp x.0 y.0) (nat_cmp x.1 y.1) (nat_cmp x.2 y.2)
    (ranked x.0 y.0 _ refl) (ranked x.1 y.1 _ refl) (ranked x.2 y.2 _ refl)

both : (a b : Bool) → (a && b) ≡ true → (a ≡ true) × (b ≡ true)
both true true e = (refl, refl)
both true false e = absurd (cc e)
both false b e = absurd (cc e)

pub equal_keys : (x y : Key) → key_eq x y ≡ true → (x.0 ≡ y.0) × (x.1 ≡ y.1) × (x.2 ≡ y.2)
equal_keys x y e =
    let r = both (eqb x.0 y.0 && eqb x.1 y.1) (eqb x.2 y.2) e in
    let s = both (eqb x.0 y.0) (eqb x.1 y.1) r.0 in
    (eqb-true x.0 y.0 s.0, eqb-true x.1 y.1 s.1, eqb-true x.2 y.2 r.1)

-- ---- sorted lists
-- the list has the same elements, and stands in order
pub record IsSortedFrom {X : Type 0} (key : X → Key) (xs ys : List X) : Type 0 where
  pub same : (x : X) → In x ys ↔ In x xs
  pub ordered : AllPairs (λ a b. IsTrue (key_precedes (key a) (key b))) ys

module _ {X : Type 0} (key : X → Key) where
  abbrev by_key : X → X → Ordering
  by_key x y = key_cmp (key x) (key y)

  abbrev same_key : X → X → Bool
  same_key x y = key_eq (key x) (key y)

  in_order : (ys : List X) → IsStrictlySortedBy by_key ys → AllPairs (λ a b. IsTrue (key_precedes (key a) (key b))) ys
  in_order ys h i j d lt below = less_is (key (get_or ys i d)) (key (get_or ys j d)) (Less-from_sorted by_key ys i j d h lt below)

  -- sorted, each once
  pub sorted_once : ((x y : X) → same_key x y ≡ true → x ≡ y) → (xs ys zs : List X) → IsPermutation xs ys → IsSortedByKey key key_cmp ys → zs ≡ dedup same_key ys
      → IsSortedFrom key xs zs
  sorted_once one xs ys zs moved sorted is =
      let total : IsTotalOrder by_key = on_total key key_total in
      let equiv : IsEquivalence same_key = on_equiv key key_equiv in
      let strict = IsStrictlySortedBy-dedup {R = by_key} total {E = same_key} (λ x y. key_ties (key x) (key y)) ys sorted in
      subst (IsSortedFrom key xs) (sym is) (record {
        same = λ x. (
          λ h. permuted_in xs ys x moved (contains_In ys x (Contains-from_dedup same_key ys x (In_contains (dedup same_key ys) x h))),
          λ h. contains_In (dedup same_key ys) x (Contains-dedup equiv one ys x (Contains-permutation xs ys x moved (In_contains xs x h))),
        );
        ordered = in_order (dedup same_key ys) strict;
      })

  -- elements whose keys differ
  apart_then : (x y : X) → is_lt (by_key y x) ≡ false → same_key x y ≡ false → key_precedes (key x) (key y) ≡ true
  apart_then x y e f = less_is (key x) (key y) (by (by_key y x) refl e)
    where
      total : IsTotalOrder by_key
      total = on_total key key_total

      by : (o : Ordering) → by_key y x ≡ o → is_lt o ≡ false → by_key x y ≡ Less
      by Less is e = absurd (cc e)
      by Equal is e =
          let a : by_key x y ≡ Equal = total.antisymm x y ∙ ap ordering_reverse is in
          let b : same_key x y ≡ true = key_ties (key x) (key y) ∙ ap is_eq a in
          absurd (let c : true ≡ false = sym b ∙ f in cc c)
      by Greater is e = total.antisymm x y ∙ ap ordering_reverse is

  distinct : (xs : List X) → AllPairs (λ x y. same_key x y ≡ false) xs → IsDistinct same_key xs
  unfolding IsDistinct
  distinct [] h = tt
  distinct (x ∷ xs) h = (
    recursion_from_All (λ y. same_key x y ≡ false) xs (λ k d l. h 0 (suc k) d (omega arith) (omega arith)),
    distinct xs (λ i j d l m. h (suc i) (suc j) d (omega arith) (omega arith)),
  )

  pub sorted_apart : (xs ys : List X) → IsPermutation xs ys → IsSortedByKey key key_cmp ys → AllPairs (λ x y. same_key x y ≡ false) xs → IsSortedFrom key xs ys
  sorted_apart xs ys moved sorted apart =
      let equiv : IsEquivalence same_key = on_equiv key key_equiv in
      let still = IsDistinct-IsPermutation same_key equiv.symm xs ys moved (distinct xs apart) in
      record {
        same = λ x. (λ h. permuted_in xs ys x moved h, λ h. permuted_in ys xs x (IsPermutation-sym xs ys moved) h);
        ordered = λ i j d lt below.
            apart_then (get_or ys i d) (get_or ys j d) (sorted_far (λ x y. is_lt (by_key x y)) (ranks_by key_total key) ys sorted i j d (omega arith) below)
            (apart_from_distinct same_key ys i j d still lt below);
      }

-- ---- keys of nodes and wires
abbrev pub step_place : Node → Key
step_place p = (p.metal, line_of p, place_of p)

abbrev pub via_place : Node → Key
via_place p = (p.column, p.row, p.metal)

abbrev pub wire_place : Wire → Key
wire_place w = (w.from.metal, w.from.column, w.from.row)

pub steps_one : (p q : Node) → key_eq (step_place p) (step_place q) ≡ true → p ≡ q
steps_one p q e = let r = equal_keys (step_place p) (step_place q) e in key_same p q r.0 r.1 r.2

pub vias_one : (p q : Node) → key_eq (via_place p) (via_place q) ≡ true → p ≡ q
vias_one p q e = let r = equal_keys (via_place p) (via_place q) e in node_same p q r.2 r.0 r.1

pub wires_apart : (v w : Wire) → v.from ≢ w.from → key_eq (wire_place v) (wire_place w) ≡ false
wires_apart v w ne = by (key_eq (wire_place v) (wire_place w)) refl
  where
    by : (b : Bool) → key_eq (wire_place v) (wire_place w) ≡ b → b ≡ false
    by false e = refl
    by true e = let r = equal_keys (wire_place v) (wire_place w) e in absurd (ne (node_same v.from w.from r.0 r.1 r.2))
