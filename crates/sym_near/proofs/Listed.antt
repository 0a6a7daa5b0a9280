-- All pairs that were seen, sorted, each once.
use Rattle.std.proofs.Common.{◌≡◌, ℕ, ◌<◌, Bool, true, ◌&&◌, eqb, List, [], length, inl, inr, Option, refl, sym, subst, arith}
use Rattle.std.specs.List.{Contains, dedup}
use Rattle.std.specs.List.Sorted.{IsPermutation, IsSorted, IsStrictlySortedBy}
use Rattle.std.specs.Cmp.{IsTotalOrder, IsEquivalence}
use Rattle.std.specs.Ordering.{MatchOrdering, nat_cmp, ordering_then, is_eq, eq_by_cmp}
use Rattle.std.specs.declared.cmp.Ordering.{Ordering}
use Rattle.std.specs.declared.cmp.Ordering.TheVariants.{Less, Equal, Greater}
use Rattle.std.proofs.lemmas.Bool.{and_left, and_right, and_from, and_parts, ne_eqb, eq-eqb, eqb-true}
use Rattle.std.proofs.lemmas.Cmp.{ranked, then_total, on_total, nat_cmp_total, and_equiv, on_equiv, nat_eq_equiv}
use Rattle.std.proofs.lemmas.List.Kept.{Contains-dedup, Contains-from_dedup, IsStrictlySortedBy-dedup}
use Rattle.std.proofs.lemmas.List.Sorted.{Contains-permutation, IsPermutation-sym}
use Rattle.sym_shapes.specs.Shape.{Shape}
use Rattle.sym_near.specs.declared.near.Relation.{Relation}
use Rattle.sym_near.specs.declared.near.Pair.{Pair}
use Rattle.sym_near.specs.declared.sweep.Entry.{Entry}
use Rattle.sym_near.specs.Related.{pair_cmp, Gains, AreRelated}
use Rattle.sym_near.specs.Sweep.{Ordered, SeesRuns, SharesEither}
use Rattle.sym_near.proofs.Sweeps.{gains_then, sees_still, sees_all}

abbrev pub same_pair : Pair → Pair → Bool
same_pair p q = eqb p.first q.first && eqb p.second q.second

pair_total : IsTotalOrder pair_cmp
pair_total = then_total (on_total (λ (p : Pair). p.first) nat_cmp_total) (on_total (λ (p : Pair). p.second) nat_cmp_total)

pair_equiv : IsEquivalence same_pair
pair_equiv = and_equiv (on_equiv (λ (p : Pair). p.first) nat_eq_equiv) (on_equiv (λ (p : Pair). p.second) nat_eq_equiv)

ties_so : (a b c d : ℕ) (o1 o2 : Ordering) → MatchOrdering o1 (a < b) (a ≡ b) (b < a) → MatchOrdering o2 (c < d) (c ≡ d) (d < c)
    → (eqb a b && eqb c d) ≡ is_eq (ordering_then o1 o2)
ties_so a b c d Less o2 m1 m2 = and_left (eqb a b) (eqb c d) (ne_eqb a b (λ e. omega (arith, m1, e)))
ties_so a b c d Equal Less m1 m2 = and_right (eqb a b) (eqb c d) (ne_eqb c d (λ e. omega (arith, m2, e)))
ties_so a b c d Equal Equal m1 m2 = and_from (eqb a b) (eqb c d) (eq-eqb a b m1) (eq-eqb c d m2)
ties_so a b c d Equal Greater m1 m2 = and_right (eqb a b) (eqb c d) (ne_eqb c d (λ e. omega (arith, m2, e)))
ties_so a b c d Greater o2 m1 m2 = and_left (eqb a b) (eqb c d) (ne_eqb a b (λ e. omega (arith, m1, e)))

pair_ties : (p q : Pair) → same_pair p q ≡ eq_by_cmp pair_cmp p q
pair_ties p q =
    ties_so p.first q.first p.second q.second (nat_cmp p.first q.first) (nat_cmp p.second q.second) (ranked p.first q.first _ refl) (ranked p.second q.second _ refl)

same_is : (p q : Pair) → same_pair p q ≡ true → p ≡ q
same_is p q h =
    let parts = and_parts (eqb p.first q.first) (eqb p.second q.second) h in
    let first : p.first ≡ q.first = eqb-true p.first q.first parts.0 in
    let second : p.second ≡ q.second = eqb-true p.second q.second parts.1 in
    λ i. record { first = first i; second = second i }

none_in : (p : Pair) → Contains [] p → ⊥
none_in p h = let low = h.1 in omega (arith, low)

pub related_all : (all : List Shape) (r : Relation) (beside : Option ℕ) (entries turned : List Entry) (olds half found ordered kept : List Pair) → olds ≡ [] → Gains all r olds half → Gains all r half found
    → SeesRuns all r beside entries half (length entries) → SeesRuns all r beside turned found (length turned) → Ordered entries × Ordered turned → SharesEither all r beside entries turned
    → IsPermutation found ordered → IsSorted pair_cmp ordered → kept ≡ dedup same_pair ordered → AreRelated all r kept
related_all all r beside entries turned olds half found ordered kept none first second sees more in_order shares moved sorted is = let gains = gains_then all r beside olds half found first second in record {
  sound = λ p h.
      let kept_in : Contains (dedup same_pair ordered) p = subst (λ (ps : List Pair). Contains ps p) is h in
      let found_in : Contains found p = Contains-permutation ordered found p (IsPermutation-sym found ordered moved) (Contains-from_dedup same_pair ordered p kept_in) in
      elim (gains.only p found_in) [
        | inl old ↦ absurd (none_in p (subst (λ (ps : List Pair). Contains ps p) none old))
        | inr new ↦ new
      ];
  whole = λ i j h.
      let found_in = sees_all all r beside entries turned found in_order.0 in_order.1 (sees_still all r beside entries half found (length entries) second sees) more shares i j h in
      subst (λ (ps : List Pair). Contains ps (record { first = i; second = j })) (sym is)
      (Contains-dedup pair_equiv same_is ordered (record { first = i; second = j }) (Contains-permutation found ordered (record { first = i; second = j }) moved found_in));
  sorted = subst (λ (ps : List Pair). IsStrictlySortedBy pair_cmp ps) (sym is) (IsStrictlySortedBy-dedup pair_total pair_ties ordered sorted);
}
