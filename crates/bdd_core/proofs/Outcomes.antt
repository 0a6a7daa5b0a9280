-- What one turn of the recursion leaves.
use Rattle.std.proofs.Common.{◌≡◌, ℕ, ◌+◌, ◌-◌, ◌≤◌, ◌⊎◌, inl, inr, List, ◌++◌, Result, Ok, Err, sym, ap, subst, ◌∙◌, arith}
use Rattle.std.specs.List.{Contains}
use Rattle.bdd_core.specs.declared.node.BddError.{BddError}
use Rattle.bdd_core.specs.declared.node.BddError.TheVariants.{Budget}
use Rattle.bdd_core.specs.declared.operators.Operator.{Operator}
use Rattle.bdd_core.specs.declared.operators.Triple.{Triple}
use Rattle.bdd_core.specs.Truths.{Truths, halves, IsPart}
use Rattle.bdd_core.specs.Nodes.{raised, raised_to, height, place, joined, Lists, IsMade, IsFull}
use Rattle.bdd_core.specs.Combined.{combined_at, AreFrom, Grown, IsPlaceOf, IsOverBy, IsKnown, AreKnown, AreCofactors, IsOutcome}
use Rattle.bdd_core.proofs.Raised.{part-itself, part-in_raised}
use Rattle.bdd_core.proofs.Combining.{combined_earlier, from_earlier, from-back, are-grown, known-grown, place_of-grown, combined-grown, grown-none, grown-part, grown-then, over-part, grown-made}

-- an answer that was there
pub outcome_same : (vars budget : ℕ) (lists : List Truths) (from : ℕ) (f : Truths) (at : ℕ) → IsPlaceOf vars lists from f at → IsOutcome vars budget lists lists from f (Ok at)
outcome_same vars budget lists from f at p = record { grown = grown-none lists f; ok = p; over = tt }

-- the least of the variables of three places
pub record IsLeast (vars : ℕ) (lists : List Truths) (k : Triple) (v : ℕ) : Type 0 where
  pub are : AreFrom vars lists v k
  pub last : (from : ℕ) → AreFrom vars lists from k → from ≤ v

module _ (o : Operator) (d0 : Lists) (v : ℕ) (k k0 k1 : Triple) (l : IsLeast d0.vars d0.lists k v) (p : AreCofactors d0.vars d0.lists v k k0 k1) where
  whole : (from : ℕ) → from ≤ v → combined_at o d0.vars d0.lists from k
      ≡ raised (v - from) (halves (combined_at o d0.vars d0.lists (v + 1) k0) (combined_at o d0.vars d0.lists (v + 1) k1))
  whole from early = combined_earlier o d0.vars from v d0.lists k early l.are ∙ ap (λ (t : Truths). raised (v - from) t) (p.is o)

  into : (from : ℕ) → from ≤ v → (t : Truths) → IsPart t (halves (combined_at o d0.vars d0.lists (v + 1) k0) (combined_at o d0.vars d0.lists (v + 1) k1)) → IsPart t (combined_at o d0.vars d0.lists from k)
  into from early t part = subst (λ (f : Truths). IsPart t f) (sym (whole from early)) (part-in_raised (v - from) _ t part)

  pub err_low : (from : ℕ) → from ≤ v → (new : List Truths) (e : BddError) → IsOutcome d0.vars d0.budget d0.lists new (v + 1) (combined_at o d0.vars d0.lists (v + 1) k0) (Err e)
      → IsOutcome d0.vars d0.budget d0.lists new from (combined_at o d0.vars d0.lists from k) (Err e)
  err_low from early new e was = record {
    grown = grown-part d0.lists new _ _ (λ t q. into from early t (inr (inl q))) was.grown;
    ok = tt;
    over = λ b. over-part d0.budget new _ _ (λ t q. into from early t (inr (inl q))) (was.over b);
  }

  -- after the lower half
  module _ (d1 : Lists) (low : ℕ) (vars1 : d1.vars ≡ d0.vars) (budget1 : d1.budget ≡ d0.budget)
      (o0 : IsOutcome d0.vars d0.budget d0.lists d1.lists (v + 1) (combined_at o d0.vars d0.lists (v + 1) k0) (Ok low)) where
    pub high_from : AreFrom d1.vars d1.lists (v + 1) k1
    high_from = subst (λ (n : ℕ). AreFrom n d1.lists (v + 1) k1) (sym vars1) (are-grown d0.vars d0.lists d1.lists _ (v + 1) k1 o0.grown p.high_from)

    same_high : combined_at o d1.vars d1.lists (v + 1) k1 ≡ combined_at o d0.vars d0.lists (v + 1) k1
    same_high = ap (λ (n : ℕ). combined_at o n d1.lists (v + 1) k1) vars1 ∙ combined-grown o d0.vars (v + 1) d0.lists d1.lists _ k1 o0.grown p.high_from

    grown1 : (from : ℕ) → from ≤ v → Grown d0.lists d1.lists (combined_at o d0.vars d0.lists from k)
    grown1 from early = grown-part d0.lists d1.lists _ _ (λ t q. into from early t (inr (inl q))) o0.grown

    as_high : (new : List Truths) (r : Result ℕ BddError) → IsOutcome d1.vars d1.budget d1.lists new (v + 1) (combined_at o d1.vars d1.lists (v + 1) k1) r
        → IsOutcome d0.vars d0.budget d1.lists new (v + 1) (combined_at o d0.vars d0.lists (v + 1) k1) r
    as_high new r was =
        subst (λ (f : Truths). IsOutcome d0.vars d0.budget d1.lists new (v + 1) f r) same_high
        (subst (λ (b : ℕ). IsOutcome d0.vars b d1.lists new (v + 1) (combined_at o d1.vars d1.lists (v + 1) k1) r) budget1
        (subst (λ (n : ℕ). IsOutcome n d1.budget d1.lists new (v + 1) (combined_at o d1.vars d1.lists (v + 1) k1) r) vars1 was))

    pub err_high : (from : ℕ) → from ≤ v → (new : List Truths) (e : BddError) → IsOutcome d1.vars d1.budget d1.lists new (v + 1) (combined_at o d1.vars d1.lists (v + 1) k1) (Err e)
        → IsOutcome d0.vars d0.budget d0.lists new from (combined_at o d0.vars d0.lists from k) (Err e)
    err_high from early new e was =
        let w = as_high new (Err e) was in
        record {
          grown = grown-then d0.lists d1.lists new _ (grown1 from early) (grown-part d1.lists new _ _ (λ t q. into from early t (inr (inr q))) w.grown);
          ok = tt;
          over = λ b. over-part d0.budget new _ _ (λ t q. into from early t (inr (inr q))) (w.over b);
        }

    -- after the upper half
    module _ (d2 : Lists) (high : ℕ) (vars2 : d2.vars ≡ d1.vars) (budget2 : d2.budget ≡ d1.budget)
        (o1 : IsOutcome d1.vars d1.budget d1.lists d2.lists (v + 1) (combined_at o d1.vars d1.lists (v + 1) k1) (Ok high)) where
      w1 : IsOutcome d0.vars d0.budget d1.lists d2.lists (v + 1) (combined_at o d0.vars d0.lists (v + 1) k1) (Ok high)
      w1 = as_high d2.lists (Ok high) o1

      grown2 : (from : ℕ) → from ≤ v → Grown d0.lists d2.lists (combined_at o d0.vars d0.lists from k)
      grown2 from early =
          grown-then d0.lists d1.lists d2.lists _ (grown1 from early) (grown-part d1.lists d2.lists _ _ (λ t q. into from early t (inr (inr q))) w1.grown)

      low2 : IsPlaceOf d0.vars d2.lists (v + 1) (combined_at o d0.vars d0.lists (v + 1) k0) low
      low2 = place_of-grown d0.vars d1.lists d2.lists _ _ (v + 1) low w1.grown o0.ok

      same_vars : d2.vars ≡ d0.vars
      same_vars = vars2 ∙ vars1

      joins : joined d2.vars d2.lists v low high ≡ halves (combined_at o d0.vars d0.lists (v + 1) k0) (combined_at o d0.vars d0.lists (v + 1) k1)
      joins = ap (λ (n : ℕ). joined n d2.lists v low high) same_vars ∙ (λ j. halves (low2.is j) (w1.ok.is j))

      made_into : (from : ℕ) → from ≤ v → (t : Truths) → IsPart t (joined d2.vars d2.lists v low high) → IsPart t (combined_at o d0.vars d0.lists from k)
      made_into from early t q = into from early t (subst (λ (f : Truths). IsPart t f) joins q)

      pub err_made : (from : ℕ) → from ≤ v → (new : List Truths) (e : BddError) → new ≡ d2.lists → (e ≡ Budget → IsFull d2 v low high)
          → IsOutcome d0.vars d0.budget d0.lists new from (combined_at o d0.vars d0.lists from k) (Err e)
      err_made from early new e same full = subst (λ (ls : List Truths). IsOutcome d0.vars d0.budget d0.lists ls from (combined_at o d0.vars d0.lists from k) (Err e)) (sym same) (record {
        grown = grown2 from early;
        ok = tt;
        over = λ b. by (full b);
      })
        where
          by : IsFull d2 v low high → IsOverBy d0.budget d2.lists (combined_at o d0.vars d0.lists from k)
          by f = record {
            full = omega (arith, f.full, budget2, budget1);
            part = joined d2.vars d2.lists v low high;
            uneven = f.uneven;
            is_part = made_into from early _ (part-itself (joined d2.vars d2.lists v low high));
            absent = f.absent;
          }

      -- after the node itself
      module _ (d3 : Lists) (at : ℕ) (vars3 : d3.vars ≡ d2.vars) (m : IsMade d2 d3 v low high at) where
        pub grown3 : (from : ℕ) → from ≤ v → Grown d0.lists d3.lists (combined_at o d0.vars d0.lists from k)
        grown3 from early =
            grown-then d0.lists d2.lists d3.lists _ (grown2 from early) (grown-part d2.lists d3.lists _ _ (made_into from early) (grown-made d2 d3 v low high at m))

        pub is_place : (from : ℕ) → from ≤ v → IsPlaceOf d0.vars d3.lists from (combined_at o d0.vars d0.lists from k) at
        is_place from early = record {
          from_on = record { within = m.within; below = omega (arith, m.below, same_vars) };
          is = from_earlier d0.vars from v (place d3.lists at) early (omega (arith, m.below, same_vars))
              ∙ ap (λ (t : Truths). raised (v - from) t) (ap (λ (n : ℕ). raised_to (n - v) (place d3.lists at)) (sym same_vars) ∙ m.is ∙ joins)
              ∙ sym (whole from early);
        }

        pub outcome_ok : (from : ℕ) → from ≤ v → IsOutcome d0.vars d0.budget d0.lists d3.lists from (combined_at o d0.vars d0.lists from k) (Ok at)
        outcome_ok from early = record { grown = grown3 from early; ok = is_place from early; over = tt }

        pub outcome_memory : (from : ℕ) → from ≤ v → (e : BddError) → (e ≡ Budget → ⊥) → IsOutcome d0.vars d0.budget d0.lists d3.lists from (combined_at o d0.vars d0.lists from k) (Err e)
        outcome_memory from early e not = record { grown = grown3 from early; ok = tt; over = λ b. absurd (not b) }

        back : (from : ℕ) → AreFrom d3.vars d3.lists from k → AreFrom d0.vars d0.lists from k
        back from a =
            let g = grown3 v (omega arith) in
            let a2 : AreFrom d0.vars (d0.lists ++ g.more) from k =
            subst (λ (ls : List Truths). AreFrom d0.vars ls from k) g.grown (subst (λ (n : ℕ). AreFrom n d3.lists from k) (vars3 ∙ same_vars) a) in
            record {
              x = from-back d0.vars d0.lists g.more from k.x l.are.x.within a2.x;
              y = from-back d0.vars d0.lists g.more from k.y l.are.y.within a2.y;
              z = from-back d0.vars d0.lists g.more from k.z l.are.z.within a2.z;
            }

        -- the answer that is kept
        pub known_new : IsKnown o d3.vars d3.lists k at
        known_new =
            let a3 = are-grown d0.vars d0.lists d3.lists _ v k (grown3 v (omega arith)) l.are in
            record { x = a3.x.within; y = a3.y.within; z = a3.z.within; answer = λ from a. by from (back from a) }
          where
            by : (from : ℕ) → AreFrom d0.vars d0.lists from k → IsPlaceOf d3.vars d3.lists from (combined_at o d3.vars d3.lists from k) at
            by from a =
                subst (λ (n : ℕ). IsPlaceOf n d3.lists from (combined_at o n d3.lists from k) at) (sym (vars3 ∙ same_vars))
                (subst (λ (f : Truths). IsPlaceOf d0.vars d3.lists from f at) (sym (combined-grown o d0.vars from d0.lists d3.lists _ k (grown3 v (omega arith)) a)) (is_place from (l.last from a)))

        pub known_after : (entries : List (Triple × ℕ)) → AreKnown o d2 entries → AreKnown o d3 entries
        known_after entries known q b c =
            subst (λ (n : ℕ). IsKnown o n d3.lists q b) (sym vars3) (known-grown o d2.vars d2.lists d3.lists _ q b (grown-made d2 d3 v low high at m) (known q b c))

        pub known_more : (entries more : List (Triple × ℕ)) → AreKnown o d2 entries → ((q : Triple) (b : ℕ) → Contains more (q, b) → Contains entries (q, b) ⊎ ((q ≡ k) × (b ≡ at))) → AreKnown o d3 more
        known_more entries more known old q b c = by (old q b c)
          where
            by : (Contains entries (q, b) ⊎ ((q ≡ k) × (b ≡ at))) → IsKnown o d3.vars d3.lists q b
            by (inl c) = known_after entries known q b c
            by (inr e) = subst (λ (q : Triple). IsKnown o d3.vars d3.lists q b) (sym e.0) (subst (λ (b : ℕ). IsKnown o d3.vars d3.lists k b) (sym e.1) known_new)

pub least_is : (vars : ℕ) (lists : List Truths) (from : ℕ) (k : Triple) (v x y z : ℕ) → AreFrom vars lists from k
    → x + height (place lists k.x) ≡ vars → y + height (place lists k.y) ≡ vars → z + height (place lists k.z) ≡ vars
    → v ≤ x → v ≤ y → v ≤ z → ((v ≡ x) ⊎ (v ≡ y) ⊎ (v ≡ z)) → IsLeast vars lists k v
least_is vars lists from k v x y z a ix iy iz lx ly lz one = record {
  are = record {
    x = record { within = a.x.within; below = omega arith };
    y = record { within = a.y.within; below = omega arith };
    z = record { within = a.z.within; below = omega arith };
  };
  last = λ f b. by f b one;
}
  where
    by : (f : ℕ) → AreFrom vars lists f k → ((v ≡ x) ⊎ (v ≡ y) ⊎ (v ≡ z)) → f ≤ v
    by f b (inl e) = omega (arith, b.x.below)
    by f b (inr (inl e)) = omega (arith, b.y.below)
    by f b (inr (inr e)) = omega (arith, b.z.below)

pub known_same : (o : Operator) (d2 d3 : Lists) (entries : List (Triple × ℕ)) → d3.vars ≡ d2.vars → d3.lists ≡ d2.lists → AreKnown o d2 entries → AreKnown o d3 entries
known_same o d2 d3 entries vars lists known q b c =
    subst (λ (n : ℕ). IsKnown o n d3.lists q b) (sym vars) (subst (λ (ls : List Truths). IsKnown o d2.vars ls q b) (sym lists) (known q b c))
