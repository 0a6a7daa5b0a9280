-- Bits on which a function is 1, one after the other.
use Rattle.std.proofs.Common.{◌≡◌, ℕ, suc, ◌+◌, ◌-◌, ◌<◌, ◌≤◌, Bool, true, false, List, [], ◌∷◌, ◌++◌, length, refl, sym, ap, subst, ◌∙◌, arith, append_assoc, append-nil}
use Rattle.std.proofs.Math.Dec.{eqb}
use Rattle.std.proofs.lemmas.Bool.{eq-eqb, ne_eqb}
use Rattle.bdd_core.specs.Truths.{Truths, constant, halves}
use Rattle.bdd_core.specs.Branching.{truth_at}
use Rattle.bdd_core.specs.Nodes.{raised_to, height, place, joined, Lists, IsSon, IsWhole}
use Rattle.bdd_core.specs.Counting.{function}
use Rattle.bdd_core.proofs.Raised.{raised_to-suc, raised_to-injective, raised_to-itself}
use Rattle.bdd_core.proofs.Held.{reduced_place}

-- with these bits in front, the function goes on as that of a place which isn't 0 everywhere
pub record IsOnTheWay (d : Lists) (start at v : ℕ) (bits : List Bool) : Type 0 where
  pub within : at < length d.lists
  pub early : height (place d.lists at) + v ≤ d.vars
  pub some : place d.lists at ≡ constant false → ⊥
  pub count : length bits ≡ v
  pub goes_on : (w : List Bool) → truth_at (function d start) (bits ++ w) ≡ truth_at (raised_to (d.vars - v) (place d.lists at)) w

-- the way on, by the half for this bit
step : (d : Lists) (start at v son : ℕ) (bits : List Bool) (b : Bool) → IsOnTheWay d start at v bits → v < d.vars → IsSon d.vars d.lists v son
    → (place d.lists son ≡ constant false → ⊥)
    → ((w : List Bool) → truth_at (raised_to (d.vars - v) (place d.lists at)) (b ∷ w) ≡ truth_at (raised_to (d.vars - (v + 1)) (place d.lists son)) w)
    → IsOnTheWay d start son (v + 1) (bits ++ b ∷ [])
step d start at v son bits b way less s some half = record {
  within = s.within;
  early = omega (arith, s.below);
  some = some;
  count = omega (arith, way.count, length_push bits b);
  goes_on = λ w. ap (λ (l : List Bool). truth_at (function d start) l) (append_assoc bits (b ∷ []) w) ∙ way.goes_on (b ∷ w) ∙ half w;
}
  where
    length_push : (xs : List Bool) (x : Bool) → length (xs ++ x ∷ []) ≡ length xs + 1
    length_push [] x = refl
    length_push (y ∷ xs) x = omega (arith, length_push xs x)

pub step_low : (d : Lists) (start at v low high : ℕ) (bits : List Bool) → IsOnTheWay d start at v bits → v < d.vars
    → IsSon d.vars d.lists v low → raised_to (d.vars - v) (place d.lists at) ≡ joined d.vars d.lists v low high
    → (place d.lists low ≡ constant false → ⊥) → IsOnTheWay d start low (v + 1) (bits ++ false ∷ [])
step_low d start at v low high bits way less l is some =
    step d start at v low bits false way less l some (λ w. ap (λ (t : Truths). truth_at t (false ∷ w)) is)

pub step_high : (d : Lists) (start at v low high : ℕ) (bits : List Bool) → IsWhole d → IsOnTheWay d start at v bits → v < d.vars
    → IsSon d.vars d.lists v high → raised_to (d.vars - v) (place d.lists at) ≡ joined d.vars d.lists v low high
    → place d.lists low ≡ constant false → IsOnTheWay d start high (v + 1) (bits ++ true ∷ [])
step_high d start at v low high bits whole way less h is none =
    step d start at v high bits true way less h (λ e. way.some (both e)) (λ w. ap (λ (t : Truths). truth_at t (true ∷ w)) is)
  where
    zeros : raised_to (d.vars - v) (constant false) ≡ halves (raised_to (d.vars - (v + 1)) (constant false)) (raised_to (d.vars - (v + 1)) (constant false))
    zeros =
        let e : d.vars - v ≡ suc (d.vars - (v + 1)) = omega arith in
        ap (λ (n : ℕ). raised_to n (constant false)) e ∙ raised_to-suc (d.vars - (v + 1)) (constant false) (omega arith)

    both : place d.lists high ≡ constant false → place d.lists at ≡ constant false
    both e =
        raised_to-injective (d.vars - v) (d.vars - v) (place d.lists at) (constant false) (reduced_place d at whole way.within) tt
        (is ∙ (λ j. halves (raised_to (d.vars - (v + 1)) (none j)) (raised_to (d.vars - (v + 1)) (e j))) ∙ sym zeros)

true_of : (t : Truths) → height t ≡ 0 → (t ≡ constant false → ⊥) → truth_at t [] ≡ true
true_of (constant true) e some = refl
true_of (constant false) e some = absurd (some refl)
true_of (halves a b) e some = absurd (omega arith)

-- behind all variables the function is 1
pub ended : (d : Lists) (start at v : ℕ) (bits : List Bool) → IsOnTheWay d start at v bits → v ≡ d.vars → truth_at (function d start) bits ≡ true
ended d start at v bits way e =
    ap (λ (l : List Bool). truth_at (function d start) l) (sym (append-nil bits)) ∙ way.goes_on []
    ∙ ap (λ (t : Truths). truth_at t []) (raised_to-itself (d.vars - v) (place d.lists at) (let h = way.early in omega arith))
    ∙ true_of (place d.lists at) (let h = way.early in omega arith) way.some

-- one bit further, where it is 1 just where the half for 0 is the place of 0
module _ (d : Lists) (start at v low high zero : ℕ) (bits made : List Bool) (whole : IsWhole d) (way : IsOnTheWay d start at v bits) (less : v < d.vars)
    (is_zero : place d.lists zero ≡ constant false) (within : zero < length d.lists) (l : IsSon d.vars d.lists v low) (h : IsSon d.vars d.lists v high)
    (is : raised_to (d.vars - v) (place d.lists at) ≡ joined d.vars d.lists v low high) (pushed : made ≡ bits ++ eqb low zero ∷ []) where
  pub turn_high : low ≡ zero → IsOnTheWay d start high (v + 1) made
  turn_high same =
      subst (λ (l : List Bool). IsOnTheWay d start high (v + 1) l) (sym (pushed ∙ ap (λ (b : Bool). bits ++ b ∷ []) (eq-eqb low zero same)))
      (step_high d start at v low high bits whole way less h is (ap (λ (i : ℕ). place d.lists i) same ∙ is_zero))

  pub turn_low : (low ≡ zero → ⊥) → IsOnTheWay d start low (v + 1) made
  turn_low other =
      subst (λ (l : List Bool). IsOnTheWay d start low (v + 1) l) (sym (pushed ∙ ap (λ (b : Bool). bits ++ b ∷ []) (ne_eqb low zero other)))
      (step_low d start at v low high bits way less l is (λ e. other (whole.distinct low zero l.within within (e ∙ sym is_zero))))
