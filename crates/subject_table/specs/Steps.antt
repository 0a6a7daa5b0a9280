-- The way down into an expression, by operators that lack the operand at which it goes on.
use Rattle.std.specs.Prelude.{◌≡◌, ℕ, ◌+◌, ◌<◌, ◌≤◌, Bool, not, List, [], ◌∷◌, ◌++◌, map, length, count_by, if◌then◌else◌}
use Rattle.bool_expr.specs.Expression.{Expression, val, gate_value, gate_size, size_of}
use Rattle.graph_theory.specs.Graph.{Node, is_logic}
use Rattle.subject_table.specs.declared.steps.Step.{Step}
use Rattle.subject_table.specs.declared.steps.Step.TheVariants as step
use Rattle.subject_table.specs.declared.table.Table.{Table}
use Rattle.subject_table.specs.View.{kinds, end_of}
use Rattle.subject_table.specs.Grows.{IsSound, value}

-- the value of an operator, from that of the operand that it lacks
abbrev pub step_value : Step → (ℕ → Bool) → Bool → Bool
step_value step.Not v x = not x
step_value (step.Pair g b) v x = gate_value g x (v b)
step_value (step.Choice c a) v x = if v c then v a else x

-- of operators one inside the other, the outermost first
abbrev pub steps_value : List Step → (ℕ → Bool) → Bool → Bool
steps_value [] v x = x
steps_value (s ∷ ss) v x = step_value s v (steps_value ss v x)

-- what an operator weighs, and what operators weigh together
abbrev pub step_size : Step → ℕ
step_size step.Not = 1
step_size (step.Pair g b) = gate_size g
step_size (step.Choice c a) = 4

abbrev pub steps_size : List Step → ℕ
steps_size [] = 0
steps_size (s ∷ ss) = step_size s + steps_size ss

-- the operands that are there have numbers below n
abbrev pub IsStepBelow : ℕ → Step → Type 0
IsStepBelow n step.Not = Unit {0}
IsStepBelow n (step.Pair g b) = b < n
IsStepBelow n (step.Choice c a) = (c < n) × (a < n)

abbrev pub AreStepsBelow : ℕ → List Step → Type 0
AreStepsBelow n [] = Unit {0}
AreStepsBelow n (s ∷ ss) = IsStepBelow n s × AreStepsBelow n ss

-- The operators over the last number have the expression's value, and what is there already and they weigh no more than it.
pub record Walks (t u : Table) (numbers : List ℕ) (e : Expression) (steps : List Step) (last : ℕ) : Type 0 where
  pub held : u.held ≡ t.held
  pub more : List Node
  pub nodes : kinds u ≡ kinds t ++ more
  pub sound : IsSound u
  pub cost : count_by is_logic (kinds u) + steps_size steps ≤ count_by is_logic (kinds t) + size_of e
  pub within : last < end_of u
  pub known : AreStepsBelow (end_of u) steps
  pub same : (w : List Bool) → length w ≡ t.held → steps_value steps (value u w) (value u w last) ≡ val e (map (value t w) numbers)
