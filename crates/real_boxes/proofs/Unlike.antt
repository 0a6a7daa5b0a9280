-- The first of pairs that don't meet, though others at their places do.
use Rattle.std.proofs.Common.{◌≡◌, ◌⊎◌, inl, inr, ℕ, ◌<◌, ◌≤◌, List, length, arith, sym, ◌∙◌, ap, subst}
use Rattle.std.proofs.lemmas.Bool.{cases_lt, cases_eq}
use Rattle.sym_geom.specs.Rect.{Meet}
use Rattle.sym_shapes.specs.Shape.{Shape}
use Rattle.sym_near.specs.declared.near.Pair.{Pair}
use Rattle.sym_near.specs.declared.near.Relation.TheVariants as relation
use Rattle.sym_near.specs.Related.{pair, shape_at, Relates, AreRelated}
use Rattle.sym_near.proofs.Sweeps.{at_any}
use Rattle.s2r_cif.proofs.Firsts.{pair_at, rises}
use Rattle.s2r_cif.proofs.Meets.{meet_other, meet_cases}
use Rattle.real_boxes.specs.Metals.{AreUnlike, NoneUnlike, IsFirstUnlike, AreWithinGap, MeetAsShapes}

module _ (these others : List Shape) (gap : ℕ) (ps : List Pair) (are : AreRelated these (relation.Near gap) ps) (within : AreWithinGap these others gap) where
  abbrev IsUnlikeAt : ℕ → Type 0
  IsUnlikeAt k = AreUnlike these others (pair_at ps k).first (pair_at ps k).second

  -- what is known of the pair at a place
  pub related_at : (k : ℕ) → k < length ps → Relates these (relation.Near gap) (pair_at ps k).first (pair_at ps k).second
  related_at k low = are.sound (pair_at ps k) (k, low, at_any ps k (pair_at ps k) (record { first = 0; second = 0 }) low)

  -- it is such a one if the others meet
  pub unlike_at : (k : ℕ) → k < length ps → Meet (shape_at others (pair_at ps k).first).rect (shape_at others (pair_at ps k).second).rect → IsUnlikeAt k
  unlike_at k low meet =
      let r = related_at k low in record { order = r.is.0; there = r.second; metal = r.metal; apart = r.is.1.0; meet = meet }

  -- where such a pair stands
  place_of : (i j : ℕ) → AreUnlike these others i j → (k : ℕ) × (k < length ps) × (pair_at ps k ≡ pair i j)
  place_of i j n =
      let order = n.order in
      let there = n.there in
      let here : i < length these = omega (arith, order, there) in
      let found =
      are.whole i j (record { first = here; second = there; metal = n.metal; is = (order, (n.apart, within i j here there n.meet)) }) in
      (found.0, found.1, at_any ps found.0 (record { first = 0; second = 0 }) (pair i j) found.1 ∙ found.2)

  unlike_so : (i j k : ℕ) → pair_at ps k ≡ pair i j → AreUnlike these others i j → IsUnlikeAt k
  unlike_so i j k is n = subst (λ (p : Pair). AreUnlike these others p.first p.second) (sym is) n

  pub none_of : ((k : ℕ) → k < length ps → IsUnlikeAt k → ⊥) → NoneUnlike these others
  none_of none i j n = let p = place_of i j n in none p.0 p.1 (unlike_so i j p.0 p.2 n)

  pub first_of : (k : ℕ) → k < length ps → ((m : ℕ) → m < k → IsUnlikeAt m → ⊥) → IsUnlikeAt k → IsFirstUnlike these others (pair_at ps k).first (pair_at ps k).second
  first_of k low none unlike = record { unlike = unlike; first = λ i j n. later i j n (place_of i j n) } where
    later : (i j : ℕ) → AreUnlike these others i j → (m : ℕ) × (m < length ps) × (pair_at ps m ≡ pair i j)
        → ((pair_at ps k).first < i) ⊎ (((pair_at ps k).first ≡ i) × ((pair_at ps k).second ≤ j))
    later i j n p =
        let first : (pair_at ps p.0).first ≡ i = ap (λ (q : Pair). q.first) p.2 in
        let second : (pair_at ps p.0).second ≡ j = ap (λ (q : Pair). q.second) p.2 in
        elim (cases_lt p.0 k) [
          | inl lt ↦ absurd (none p.0 lt (unlike_so i j p.0 p.2 n))
          | inr ge ↦ elim (cases_eq p.0 k) [
            | inl e ↦
                let same_first : (pair_at ps k).first ≡ i = ap (λ (x : ℕ). (pair_at ps x).first) (sym e) ∙ first in
                let same_second : (pair_at ps k).second ≡ j = ap (λ (x : ℕ). (pair_at ps x).second) (sym e) ∙ second in
                inr (same_first, omega (arith, same_second))
            | inr other ↦ elim (rises ps are.sorted k p.0 (omega (arith, ge, other)) p.1) [
              | inl less ↦ inl (omega (arith, less, first))
              | inr b ↦ let eq = b.0 in let less = b.1 in inr (eq ∙ first, omega (arith, less, second))
            ]
          ]
        ]

-- ---- boxes meet exactly where shapes touch

module _ (shapes boxes : List Shape) (count : length boxes ≡ length shapes) (metals : (k : ℕ) → k < length shapes → (shape_at shapes k).metal ≡ (shape_at boxes k).metal)
    (joined : NoneUnlike shapes boxes) (parted : NoneUnlike boxes shapes) where
  touch_of : (i j : ℕ) → i < j → j < length shapes → (shape_at shapes i).metal ≡ (shape_at shapes j).metal → Meet (shape_at boxes i).rect (shape_at boxes j).rect
      → Meet (shape_at shapes i).rect (shape_at shapes j).rect
  touch_of i j order there metal meet = elim (meet_cases (shape_at shapes i).rect (shape_at shapes j).rect) [
    | inl m ↦ m
    | inr n ↦ absurd (joined i j (record { order = order; there = there; metal = metal; apart = n; meet = meet }))
  ]

  meet_of : (i j : ℕ) → i < j → j < length shapes → (shape_at shapes i).metal ≡ (shape_at shapes j).metal → Meet (shape_at shapes i).rect (shape_at shapes j).rect
      → Meet (shape_at boxes i).rect (shape_at boxes j).rect
  meet_of i j order there metal touch = elim (meet_cases (shape_at boxes i).rect (shape_at boxes j).rect) [
    | inl m ↦ m
    | inr n ↦
        let here : i < length shapes = omega (arith, order, there) in
        absurd (parted i j (record {
          order = order;
          there = omega (arith, there, count);
          metal = sym (metals i here) ∙ metal ∙ metals j there;
          apart = n;
          meet = touch;
        }))
  ]

  pub meet_as_shapes : MeetAsShapes shapes boxes
  meet_as_shapes i j here there differ metal = elim (cases_lt i j) [
    | inl lt ↦ (touch_of i j lt there metal, meet_of i j lt there metal)
    | inr ge ↦
        let order : j < i = let n : i ≡ j → ⊥ = differ in omega (arith, ge, n) in (
          λ h. meet_other _ _ (touch_of j i order here (sym metal) (meet_other _ _ h)),
          λ h. meet_other _ _ (meet_of j i order here (sym metal) (meet_other _ _ h)),
        )
  ]
