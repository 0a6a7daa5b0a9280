-- Operators over bits that have places in an array, whose first two bits are a 0 and a 1.
use Rattle.std.specs.Prelude.{◌≡◌, ℕ, ◌<◌, Bool, true, false, not, List, [], ◌∷◌, if◌then◌else◌}
use Rattle.bool_expr.specs.Expression.{bit, gate_value}
use Rattle.asimut_sim.specs.declared.operator.Operator.{Operator}
use Rattle.asimut_sim.specs.declared.operator.Step.{Step}
use Rattle.asimut_sim.specs.declared.operator.Step.TheVariants.{Not, Pair, Choice}

abbrev pub inverted : Bool → Bool → Bool
inverted inverts b = if inverts then not b else b

-- what the operator gives over the bits of an array
abbrev pub chosen : List Bool → Operator → Bool
chosen a o = if bit a o.condition then inverted o.inverts_first (bit a o.first) else inverted o.inverts_second (bit a o.second)

-- it reads places below n
pub record ReadsBelow (n : ℕ) (o : Operator) : Type 0 where
  pub condition : o.condition < n
  pub first : o.first < n
  pub second : o.second < n

pub record HasConstants (a : List Bool) : Type 0 where
  pub zero : bit a 0 ≡ false
  pub one : bit a 1 ≡ true

-- a step's operator over the bit that it lacks
abbrev pub step_value : List Bool → Step → Bool → Bool
step_value a Not b = not b
step_value a (Pair gate k) b = gate_value gate b (bit a k)
step_value a (Choice c k) b = if bit a c then bit a k else b

-- steps one inside the other, the outermost first
abbrev pub steps_value : List Bool → List Step → Bool → Bool
steps_value a [] b = b
steps_value a (s ∷ ss) b = step_value a s (steps_value a ss b)

abbrev pub StepBelow : ℕ → Step → Type 0
StepBelow n Not = Unit {0}
StepBelow n (Pair gate k) = k < n
StepBelow n (Choice c k) = (c < n) × (k < n)
