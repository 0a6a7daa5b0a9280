-- The first of near pairs that stand in their order.
use Rattle.std.proofs.Common.{◌≡◌, ◌⊎◌, inl, inr, ℕ, zero, suc, ◌+◌, ◌<◌, ◌≤◌, List, [], ◌∷◌, length, get_or, refl, arith, sym, ◌∙◌, ap, subst}
use Rattle.std.specs.List.{AllByRecursion, Contains}
use Rattle.std.specs.List.Sorted.{IsStrictlySortedBy}
use Rattle.std.specs.Ordering.{MatchOrdering, nat_cmp, ordering_then}
use Rattle.std.specs.declared.cmp.Ordering.{Ordering}
use Rattle.std.specs.declared.cmp.Ordering.TheVariants.{Less, Equal, Greater}
use Rattle.std.proofs.lemmas.Bool.{cases_lt, cases_eq}
use Rattle.std.proofs.lemmas.Cmp.{ranked}
use Rattle.sym_shapes.specs.Shape.{Shape}
use Rattle.sym_near.specs.declared.near.Pair.{Pair}
use Rattle.sym_near.specs.declared.near.Relation.TheVariants as relation
use Rattle.sym_near.specs.Related.{pair, pair_cmp, shape_at, Relates, AreRelated}
use Rattle.sym_near.proofs.Sweeps.{at_any}
use Rattle.s2r_cif.specs.declared.table.RealTable.{RealTable}
use Rattle.s2r_cif.specs.Real.{grow_of, AreClose, AllWithinGap}
use Rattle.s2r_cif.specs.Refused.{AreNear, NoneNear, IsFirstNear}

-- ---- order

abbrev pub pair_at : List Pair → ℕ → Pair
pair_at ps k = get_or ps k (record { first = 0; second = 0 })

abbrev pub Before : Pair → Pair → Type 0
Before p q = (p.first < q.first) ⊎ ((p.first ≡ q.first) × (p.second < q.second))

before_so : (p q : Pair) (o1 o2 : Ordering) → MatchOrdering o1 (p.first < q.first) (p.first ≡ q.first) (q.first < p.first)
    → MatchOrdering o2 (p.second < q.second) (p.second ≡ q.second) (q.second < p.second) → ordering_then o1 o2 ≡ Less → Before p q
before_so p q Less o2 m1 m2 h = inl m1
before_so p q Equal Less m1 m2 h = inr (m1, m2)
before_so p q Equal Equal m1 m2 h = absurd (cc h)
before_so p q Equal Greater m1 m2 h = absurd (cc h)
before_so p q Greater o2 m1 m2 h = absurd (cc h)

less_before : (p q : Pair) → pair_cmp p q ≡ Less → Before p q
less_before p q h =
    before_so p q (nat_cmp p.first q.first) (nat_cmp p.second q.second) (ranked p.first q.first _ refl) (ranked p.second q.second _ refl) h

behind : (p : Pair) (ps : List Pair) (k : ℕ) → AllByRecursion (λ q. pair_cmp p q ≡ Less) ps → k < length ps → Before p (pair_at ps k)
behind p [] k h low = absurd (omega arith)
behind p (x ∷ xs) zero h low = less_before p x h.0
behind p (x ∷ xs) (suc k) h low = behind p xs k h.1 (omega arith)

-- an earlier one is before a later one
pub rises : (ps : List Pair) → IsStrictlySortedBy pair_cmp ps → (i j : ℕ) → i < j → j < length ps → Before (pair_at ps i) (pair_at ps j)
unfolding IsStrictlySortedBy
rises [] s i j order low = absurd (omega arith)
rises (p ∷ ps) s i zero order low = absurd (omega arith)
rises (p ∷ ps) s zero (suc j) order low = behind p ps j s.0 (omega arith)
rises (p ∷ ps) s (suc i) (suc j) order low = rises ps s.1 i j (omega arith) (omega arith)

-- ---- near pairs among those within a gap

module _ (t : RealTable) (all : List Shape) (gap : ℕ) (ps : List Pair) (are : AreRelated all (relation.Near gap) ps) (within : AllWithinGap t gap) where
  abbrev IsNearAt : ℕ → Type 0
  IsNearAt k = AreNear t all (pair_at ps k).first (pair_at ps k).second

  -- what is known of the pair at a place
  pub related_at : (k : ℕ) → k < length ps → Relates all (relation.Near gap) (pair_at ps k).first (pair_at ps k).second
  related_at k low = are.sound (pair_at ps k) (k, low, at_any ps k (pair_at ps k) (record { first = 0; second = 0 }) low)

  -- it is near if it is close
  pub near_at : (k : ℕ) → k < length ps
      → AreClose t.scale (grow_of t (shape_at all (pair_at ps k).first).metal) (shape_at all (pair_at ps k).first).rect (shape_at all (pair_at ps k).second).rect → IsNearAt k
  near_at k low close =
      let r = related_at k low in record { order = r.is.0; there = r.second; metal = r.metal; apart = r.is.1.0; close = close }

  -- where a near pair stands
  place_of : (i j : ℕ) → AreNear t all i j → (k : ℕ) × (k < length ps) × (pair_at ps k ≡ pair i j)
  place_of i j n =
      let order = n.order in
      let there = n.there in
      let found =
      are.whole i j (record { first = omega (arith, order, there); second = there; metal = n.metal; is = (order, (n.apart, within (shape_at all i).metal (shape_at all i).rect (shape_at all j).rect n.close)) }) in
      (found.0, found.1, at_any ps found.0 (record { first = 0; second = 0 }) (pair i j) found.1 ∙ found.2)

  near_so : (i j k : ℕ) → pair_at ps k ≡ pair i j → AreNear t all i j → IsNearAt k
  near_so i j k is n = subst (λ (p : Pair). AreNear t all p.first p.second) (sym is) n

  pub none_of : ((k : ℕ) → k < length ps → IsNearAt k → ⊥) → NoneNear t all
  none_of none i j n = let p = place_of i j n in none p.0 p.1 (near_so i j p.0 p.2 n)

  pub first_of : (k : ℕ) → k < length ps → ((m : ℕ) → m < k → IsNearAt m → ⊥) → IsNearAt k → IsFirstNear t all (pair_at ps k).first (pair_at ps k).second
  first_of k low none near = record { near = near; first = λ i j n. later i j n (place_of i j n) } where
    later : (i j : ℕ) → AreNear t all i j → (m : ℕ) × (m < length ps) × (pair_at ps m ≡ pair i j)
        → ((pair_at ps k).first < i) ⊎ (((pair_at ps k).first ≡ i) × ((pair_at ps k).second ≤ j))
    later i j n p =
        let first : (pair_at ps p.0).first ≡ i = ap (λ (q : Pair). q.first) p.2 in
        let second : (pair_at ps p.0).second ≡ j = ap (λ (q : Pair). q.second) p.2 in
        elim (cases_lt p.0 k) [
          | inl lt ↦ absurd (none p.0 lt (near_so i j p.0 p.2 n))
          | inr ge ↦ elim (cases_eq p.0 k) [
            | inl e ↦
                let same_first : (pair_at ps k).first ≡ i = ap (λ (x : ℕ). (pair_at ps x).first) (sym e) ∙ first in
                let same_second : (pair_at ps k).second ≡ j = ap (λ (x : ℕ). (pair_at ps x).second) (sym e) ∙ second in
                inr (same_first, omega (arith, same_second))
            | inr other ↦ elim (rises ps are.sorted k p.0 (omega (arith, ge, other)) p.1) [
              | inl less ↦ inl (omega (arith, less, first))
              | inr b ↦ let eq = b.0 in let less = b.1 in inr (eq ∙ first, omega (arith, less, second))
            ]
          ]
        ]
