-- Nodes in order are found by halving.
use Rattle.std.proofs.Common.{◌≡◌, ℕ, ◌+◌, ◌<◌, ⊎_elim, true, false, List, length, get_or, refl, sym, ap, ◌∙◌, subst, arith}
use Rattle.std.specs.Prelude.{◌↔◌, AllPairs, IsTrue, Result, Ok, Err, is_ok}
use Rattle.std.specs.List.Sorted.{IsBinarySearchResult, IsSearchInRange, IsSortedBy, IsNonDecreasingBy}
use Rattle.std.specs.Ordering.{MatchOrdering, nat_cmp, ordering_then, ordering_index, is_lt, is_eq}
use Rattle.std.specs.declared.cmp.Ordering.{Ordering}
use Rattle.std.specs.declared.cmp.Ordering.TheVariants.{Less, Equal, Greater}
use Rattle.std.proofs.lemmas.Bool.{cases_lt}
use Rattle.std.proofs.lemmas.Bool.Decides.{nat_tests}
use Rattle.std.proofs.lemmas.Cmp.{ranked, tied_itself}
use Rattle.std.proofs.lemmas.List.Sorted.{searchable_from_sorted}
use Rattle.vlsi_base.specs.Member.{In}
use Rattle.maze_drawing.specs.Wiring.{precede}
use Rattle.maze_drawing.proofs.Rows.{In_contains, contains_In}
use Rattle.maze_wires.proofs.Orders.{Key, key_cmp, key_eq, key_precedes, key_total, key_ties}

not_by : (a b c x y z : ℕ) (o1 o2 o3 : Ordering) → MatchOrdering o1 (x < a) (x ≡ a) (a < x) → MatchOrdering o2 (y < b) (y ≡ b) (b < y) → MatchOrdering o3 (z < c) (z ≡ c) (c < z)
    → precede a b c x y z ≡ true → is_lt (ordering_then (ordering_then o1 o2) o3) ≡ false
not_by a b c x y z Less o2 o3 m1 m2 m3 e = absurd (grind (arith, nat_tests))
not_by a b c x y z Equal Less o3 m1 m2 m3 e = absurd (grind (arith, nat_tests))
not_by a b c x y z Equal Equal Less m1 m2 m3 e = absurd (grind (arith, nat_tests))
not_by a b c x y z Equal Equal Equal m1 m2 m3 e = refl
not_by a b c x y z Equal Equal Greater m1 m2 m3 e = refl
not_by a b c x y z Equal Greater o3 m1 m2 m3 e = refl
not_by a b c x y z Greater o2 o3 m1 m2 m3 e = refl

not_after : (x y : Key) → key_precedes x y ≡ true → is_lt (key_cmp y x) ≡ false
not_after x y e =
    not_by x.0 x.1 x.2 y.0 y.1 y.2 (nat_cmp y.0 x.0) (nat_cmp y.1 x.1) (nat_cmp y.2 x.2)
    (ranked y.0 x.0 _ refl) (ranked y.1 x.1 _ refl) (ranked y.2 x.2 _ refl) e

module _ {X : Type 0} (key : X → Key) (one : (x y : X) → key_eq (key x) (key y) ≡ true → x ≡ y) (xs : List X)
    (ordered : AllPairs (λ a b. IsTrue (key_precedes (key a) (key b))) xs) (x : X) where
  sorted : IsSortedBy (λ a b. is_lt (key_cmp (key a) (key b))) xs
  sorted k d low below = not_after (key (get_or xs k d)) (key (get_or xs (k + 1) d)) (ordered k (k + 1) d (omega arith) below)

  rises : IsNonDecreasingBy (λ y. ordering_index (key_cmp (key y) (key x))) xs
  rises = searchable_from_sorted key_total key xs (key x) sorted

  -- no other answer where the element stands
  tied : key_cmp (key x) (key x) ≡ Equal
  tied = tied_itself key_total (key x)

  pub searched : (r : Result ℕ ℕ) → IsBinarySearchResult (λ y. key_cmp (key y) (key x)) xs r → IsSearchInRange r (length xs) → IsTrue (is_ok r) ↔ In x xs
  searched (Ok i) h within = (
    λ e.
        let f : key_cmp (key (get_or xs i x)) (key x) ≡ Equal = h x in
        let is : get_or xs i x ≡ x = one (get_or xs i x) x (key_ties (key (get_or xs i x)) (key x) ∙ ap is_eq f) in
        contains_In xs x (i, within, is),
    λ g. refl,
  )
  searched (Err i) h within = (λ e. absurd (cc e), λ g. absurd (none (In_contains xs x g)))
    where
      none : (k : ℕ) × (k < length xs) × (get_or xs k x ≡ x) → ⊥
      none (k, below, is) =
          let p = h rises in
          let e : key_cmp (key (get_or xs k x)) (key x) ≡ Equal = subst (λ v. key_cmp (key v) (key x) ≡ Equal) (sym is) tied in
          ⊎_elim
          (λ lt. let f : key_cmp (key (get_or xs k x)) (key x) ≡ Less = p.0 k x (omega arith) lt in let g : Less ≡ Equal = sym f ∙ e in cc g)
          (λ ge. let f : key_cmp (key (get_or xs k x)) (key x) ≡ Greater = p.1 k x (omega (arith, ge)) below in let g : Greater ≡ Equal = sym f ∙ e in cc g)
          (cases_lt k i)
