-- Three functions at once: where all are constants, and by their halves.
use Rattle.std.proofs.Common.{◌≡◌, ℕ, ◌+◌, ◌-◌, ◌<◌, ◌≤◌, Bool, List, length, sym, ap, ◌∙◌, arith}
use Rattle.bdd_core.specs.declared.operators.Operator.{Operator}
use Rattle.bdd_core.specs.declared.operators.Triple.{Triple}
use Rattle.bdd_core.specs.Truths.{Truths, constant}
use Rattle.bdd_core.specs.Nodes.{raised, raised_to, height, place, joined, IsSon}
use Rattle.bdd_core.specs.Combined.{operator_value, combined, combined_at, IsFrom, AreFrom, IsPlaceOf, AreCofactors}
use Rattle.bdd_core.proofs.Combining.{combined_earlier, from_earlier}
use Rattle.bdd_core.proofs.Raised.{raised_to-itself}

pub record Halved (vars : ℕ) (lists : List Truths) (v at first second : ℕ) : Type 0 where
  pub low : IsSon vars lists v first
  pub high : IsSon vars lists v second
  pub is : raised_to (vars - v) (place lists at) ≡ joined vars lists v first second

son_from : (vars : ℕ) (lists : List Truths) (v at : ℕ) → IsSon vars lists v at → IsFrom vars lists (v + 1) at
son_from vars lists v at s = record { within = s.within; below = omega (arith, s.below) }

pub parted_is : (vars : ℕ) (lists : List Truths) (v : ℕ) (k low high : Triple) → Halved vars lists v k.x low.x high.x → Halved vars lists v k.y low.y high.y → Halved vars lists v k.z low.z high.z
    → AreCofactors vars lists v k low high
unfolding combined_at
parted_is vars lists v k low high x y z = record {
  low_from = record { x = son_from vars lists v low.x x.low; y = son_from vars lists v low.y y.low; z = son_from vars lists v low.z z.low };
  high_from = record { x = son_from vars lists v high.x x.high; y = son_from vars lists v high.y y.high; z = son_from vars lists v high.z z.high };
  is = λ o. (λ j. combined o (x.is j) (y.is j) (z.is j));
}

pub settled_is : (vars : ℕ) (lists : List Truths) (from : ℕ) (o : Operator) (k : Triple) (a b c : Bool) (at : ℕ) → from ≤ vars → AreFrom vars lists vars k
    → place lists k.x ≡ constant a → place lists k.y ≡ constant b → place lists k.z ≡ constant c → at < length lists → place lists at ≡ constant (operator_value o a b c)
    → IsPlaceOf vars lists from (combined_at o vars lists from k) at
unfolding combined_at
settled_is vars lists from o k a b c at early are x y z within is = record {
  from_on = record { within = within; below = omega (arith, none) };
  is = from_earlier vars from vars (place lists at) early (omega (arith, none))
      ∙ ap (λ (t : Truths). raised (vars - from) t) (raised_to-itself (vars - vars) (place lists at) (omega (arith, none)) ∙ is ∙ sym all)
      ∙ sym (combined_earlier o vars from vars lists k early are);
}
  where
    none : height (place lists at) ≡ 0
    none = ap height is

    one : (i : ℕ) (d : Bool) → place lists i ≡ constant d → raised_to (vars - vars) (place lists i) ≡ constant d
    one i d e = raised_to-itself (vars - vars) (place lists i) (omega (arith, ap height e)) ∙ e

    all : combined o (raised_to (vars - vars) (place lists k.x)) (raised_to (vars - vars) (place lists k.y)) (raised_to (vars - vars) (place lists k.z)) ≡ constant (operator_value o a b c)
    all = λ j. combined o (one k.x a x j) (one k.y b y j) (one k.z c z j)
