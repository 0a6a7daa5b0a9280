-- Values of truth lists, and the first variable on which one depends.
use Rattle.std.proofs.Common.{◌≡◌, ℕ, zero, suc, ◌+◌, ◌-◌, ◌<◌, ◌≤◌, Bool, true, false, List, [], ◌∷◌, length, refl, sym, ap, subst, ◌∙◌, arith, if◌then◌else◌, inl, inr}
use Rattle.bool_expr.specs.Expression.{bit}
use Rattle.bdd_core.specs.Truths.{Truths, constant, halves, truths, IsPart, IsUneven}
use Rattle.bdd_core.specs.Branching.{truth_at, held, IsBranch}
use Rattle.bdd_core.specs.Nodes.{raised, raised_to, height, place, joined, Lists, IsSon, IsWhole}
use Rattle.bdd_core.specs.Counting.{function}
use Rattle.bdd_core.proofs.Raised.{IsReduced, raised_to-itself, part-in_raised}
use Rattle.bdd_core.proofs.Combining.{from_earlier}
use Rattle.bdd_core.proofs.Single.{constant_to}

pub truths_value : (n : ℕ) (f : List Bool → Bool) (w : List Bool) → length w ≡ n → truth_at (truths n f) w ≡ f w
truths_value zero f [] e = refl
truths_value zero f (x ∷ w) e = absurd (omega arith)
truths_value (suc n) f [] e = absurd (omega arith)
truths_value (suc n) f (true ∷ w) e = truths_value n (λ w. f (true ∷ w)) w (omega arith)
truths_value (suc n) f (false ∷ w) e = truths_value n (λ w. f (false ∷ w)) w (omega arith)

same_both : (b : Bool) (a : Bool) → a ≡ (if b then a else a)
same_both true a = refl
same_both false a = refl

pub held_value : (t : Truths) (k : ℕ) (w : List Bool) → k < length w → truth_at t w ≡ (if bit w k then truth_at (held k true t) w else truth_at (held k false t) w)
held_value (constant b) k w within = same_both (bit w k) b
held_value (halves a b) k [] within = absurd (omega arith)
held_value (halves a b) zero (true ∷ w) within = refl
held_value (halves a b) zero (false ∷ w) within = refl
held_value (halves a b) (suc k) (true ∷ w) within = held_value b k w (omega arith)
held_value (halves a b) (suc k) (false ∷ w) within = held_value a k w (omega arith)

-- a variable in front, on which the function doesn't depend
held_raised : (k j : ℕ) (x : Bool) (t : Truths) → k < j → held k x (raised j t) ≡ raised j t
held_raised k zero x t h = absurd (omega arith)
held_raised zero (suc j) true t h = refl
held_raised zero (suc j) false t h = refl
held_raised (suc k) (suc j) x t h = let i = held_raised k j x t (omega arith) in λ j. halves (i j) (i j)

-- the variable behind those
held_low : (v : ℕ) (a b : Truths) → held v false (raised v (halves a b)) ≡ raised (suc v) a
held_low zero a b = refl
held_low (suc v) a b = let i = held_low v a b in λ j. halves (i j) (i j)

held_high : (v : ℕ) (a b : Truths) → held v true (raised v (halves a b)) ≡ raised (suc v) b
held_high zero a b = refl
held_high (suc v) a b = let i = held_high v a b in λ j. halves (i j) (i j)

same_raised : (j : ℕ) (a b : Truths) → raised j a ≡ raised j b → a ≡ b
same_raised zero a b e = e
same_raised (suc j) a b e = same_raised j a b (cc)

constant_of : (t : Truths) → height t ≡ 0 → (b : Bool) × (t ≡ constant b)
constant_of (constant b) e = (b, refl)
constant_of (halves a b) e = absurd (omega arith)

-- a place without variables has a constant function
pub constant_function : (d : Lists) (at : ℕ) → height (place d.lists at) ≡ 0 → (b : Bool) × (function d at ≡ raised d.vars (constant b))
constant_function d at e = let c = constant_of (place d.lists at) e in (c.0, constant_to d.vars (place d.lists at) c.0 c.1)

uneven_place : (d : Lists) (at : ℕ) → IsWhole d → at < length d.lists → 0 < height (place d.lists at) → IsUneven (place d.lists at)
uneven_place d zero w within h = let z : height (place d.lists 0) ≡ 0 = ap height w.zero_is in absurd (omega arith)
uneven_place d (suc zero) w within h = let z : height (place d.lists 1) ≡ 0 = ap height w.one_is in absurd (omega arith)
uneven_place d (suc (suc k)) w within h =
    let two : k + 2 ≡ suc (suc k) = omega arith in
    subst (λ (n : ℕ). IsUneven (place d.lists n)) two (w.uneven k (omega arith))

uneven_reduced : (t : Truths) → IsUneven t → IsReduced t
uneven_reduced (constant b) h = tt
uneven_reduced (halves a b) h = h

flat_reduced : (t : Truths) → height t ≡ 0 → IsReduced t
flat_reduced (constant b) h = tt
flat_reduced (halves a b) h = absurd (omega arith)

pub reduced_place : (d : Lists) (at : ℕ) → IsWhole d → at < length d.lists → IsReduced (place d.lists at)
reduced_place d zero w within = flat_reduced (place d.lists 0) (ap height w.zero_is)
reduced_place d (suc zero) w within = flat_reduced (place d.lists 1) (ap height w.one_is)
reduced_place d (suc (suc k)) w within =
    let two : k + 2 ≡ suc (suc k) = omega arith in
    uneven_reduced (place d.lists (suc (suc k))) (subst (λ (n : ℕ). IsUneven (place d.lists n)) two (w.uneven k (omega arith)))

unequal : (t a b : Truths) → IsUneven t → t ≡ halves a b → a ≡ b → ⊥
unequal t a b u e = subst IsUneven e u

-- the branch at a place's own variable
pub branch_is : (d : Lists) (at v low high : ℕ) → IsWhole d → at < length d.lists → v + height (place d.lists at) ≡ d.vars → v < d.vars
    → IsSon d.vars d.lists v low → IsSon d.vars d.lists v high → raised_to (d.vars - v) (place d.lists at) ≡ joined d.vars d.lists v low high
    → IsBranch d.vars (function d at) v (function d low) (function d high)
branch_is d at v low high w inside own within l h is = record {
  within = within;
  first = λ k less. ap (λ (t : Truths). held k false t) front ∙ held_raised k v false (halves a b) less ∙ sym (ap (λ (t : Truths). held k true t) front ∙ held_raised k v true (halves a b) less);
  depends = λ idle. unequal (place d.lists at) a b (uneven_place d at w inside (omega arith)) (sym itself ∙ is) (same_raised (suc v) a b (sym at_low ∙ idle ∙ at_high));
  low_is = behind low l.below ∙ sym at_low;
  high_is = behind high h.below ∙ sym at_high;
}
  where
    a : Truths
    a = raised_to (d.vars - (v + 1)) (place d.lists low)

    b : Truths
    b = raised_to (d.vars - (v + 1)) (place d.lists high)

    itself : raised_to (d.vars - v) (place d.lists at) ≡ place d.lists at
    itself = raised_to-itself (d.vars - v) (place d.lists at) (omega arith)

    -- all variables from the one given on
    from_all : (n : ℕ) (t : Truths) → height t + n ≤ d.vars → raised_to d.vars t ≡ raised n (raised_to (d.vars - n) t)
    from_all n t below =
        let z : d.vars - 0 ≡ d.vars = omega arith in
        let m : n - 0 ≡ n = omega arith in
        ap (λ (k : ℕ). raised_to k t) (sym z) ∙ from_earlier d.vars 0 n t (omega arith) below ∙ ap (λ (k : ℕ). raised k (raised_to (d.vars - n) t)) m

    front : function d at ≡ raised v (halves a b)
    front = from_all v (place d.lists at) (omega arith) ∙ ap (λ (t : Truths). raised v t) is

    behind : (son : ℕ) → height (place d.lists son) + v < d.vars → function d son ≡ raised (suc v) (raised_to (d.vars - (v + 1)) (place d.lists son))
    behind son below =
        let s : v + 1 ≡ suc v = omega arith in
        from_all (v + 1) (place d.lists son) (omega arith) ∙ ap (λ (k : ℕ). raised k (raised_to (d.vars - (v + 1)) (place d.lists son))) s

    at_low : held v false (function d at) ≡ raised (suc v) a
    at_low = ap (λ (t : Truths). held v false t) front ∙ held_low v a b

    at_high : held v true (function d at) ≡ raised (suc v) b
    at_high = ap (λ (t : Truths). held v true t) front ∙ held_high v a b

-- the parts of what stands behind are parts
part-in_raised_to : (h : ℕ) (t x : Truths) → IsPart x t → IsPart x (raised_to h t)
unfolding raised_to
part-in_raised_to h t x part = part-in_raised (h - height t) t x part

-- a place that is no constant has unequal halves, and the parts of the two places below it are parts of it
pub split_is : (d : Lists) (at v low high : ℕ) → IsWhole d → at < length d.lists → v + height (place d.lists at) ≡ d.vars → v < d.vars
    → raised_to (d.vars - v) (place d.lists at) ≡ joined d.vars d.lists v low high
    → IsUneven (place d.lists at) × ((x : Truths) → IsPart x (place d.lists low) → IsPart x (place d.lists at))
    × ((x : Truths) → IsPart x (place d.lists high) → IsPart x (place d.lists at))
split_is d at v low high w inside own within is = (
  uneven_place d at w inside (omega (arith, own, within)),
  λ x part. subst (λ (t : Truths). IsPart x t) (sym itself) (inr (inl (part-in_raised_to (d.vars - (v + 1)) (place d.lists low) x part))),
  λ x part. subst (λ (t : Truths). IsPart x t) (sym itself) (inr (inr (part-in_raised_to (d.vars - (v + 1)) (place d.lists high) x part))),
)
  where
    itself : place d.lists at ≡ joined d.vars d.lists v low high
    itself = sym (raised_to-itself (d.vars - v) (place d.lists at) (omega (arith, own))) ∙ is
