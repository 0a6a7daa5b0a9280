-- Lists of operators, what they give over an array of bits, and what is laid out as one.
use Rattle.std.specs.Prelude.{◌≡◌, ℕ, ◌+◌, ◌<◌, ◌≤◌, Bool, List, map, length}
use Rattle.std.specs.List.{All, slice_index_or}
use Rattle.bool_expr.specs.Expression.{Expression, bit, val}
use Rattle.machine_core.specs.Machine.{Equation}
use Rattle.machine_core.specs.Built.{built}
use Rattle.asimut_sim.specs.declared.operator.Operator.{Operator}
use Rattle.asimut_sim.specs.declared.operator.Step.{Step}
use Rattle.asimut_sim.specs.declared.program.Program.{Program}
use Rattle.asimut_sim.specs.Operator.{chosen, ReadsBelow, HasConstants, steps_value, StepBelow}

-- how many places there are up to the last operator's
abbrev pub extent : Program → ℕ
extent p = p.start + length p.operators.items

-- Each operator reads only places before its own. The constants stand before all of them.
pub record IsProgram (p : Program) : Type 0 where
  pub constants : 2 ≤ p.start
  pub reads : (k : ℕ) (d : Operator) → k < length p.operators.items → ReadsBelow (p.start + k) (slice_index_or p.operators.items k d)

-- in this array each operator's place has what it gives
pub record Obeys (p : Program) (a : List Bool) : Type 0 where
  pub constants : HasConstants a
  pub each : (k : ℕ) (d : Operator) → k < length p.operators.items → bit a (p.start + k) ≡ chosen a (slice_index_or p.operators.items k d)

-- the bits at these places
abbrev pub bits_of : List Bool → List ℕ → List Bool
bits_of a places = map (bit a) places

abbrev pub AreBelow : ℕ → List ℕ → Type 0
AreBelow n places = All (λ k. k < n) places

-- a program that goes on as this one
pub record GoesOn (old new : Program) : Type 0 where
  pub start : new.start ≡ old.start
  pub longer : length old.operators.items ≤ length new.operators.items
  pub keeps : (a : List Bool) → Obeys new a → Obeys old a
  pub program : IsProgram new

-- The expression over these variables has its value at this place.
pub record Computes (old new : Program) (vars : List ℕ) (e : Expression) (place : ℕ) : Type 0 where
  pub goes_on : GoesOn old new
  pub within : place < extent new
  pub value : (a : List Bool) → Obeys new a → bit a place ≡ val e (bits_of a vars)

-- so it has if these steps are taken from that place
pub record Descends (old new : Program) (vars : List ℕ) (e : Expression) (steps : List Step) (place : ℕ) : Type 0 where
  pub goes_on : GoesOn old new
  pub within : place < extent new
  pub below : All (StepBelow (extent new)) steps
  pub value : (a : List Bool) → Obeys new a → steps_value a steps (bit a place) ≡ val e (bits_of a vars)

-- the steps are taken from a place, and lead to this one
pub record Ascends (old new : Program) (steps : List Step) (inner place : ℕ) : Type 0 where
  pub goes_on : GoesOn old new
  pub within : place < extent new
  pub value : (a : List Bool) → Obeys new a → bit a place ≡ steps_value a steps (bit a inner)

-- the equations in turn have their values at the places that come behind those of the names before them
pub record ComputesEach (old new : Program) (vars places : List ℕ) (equations : List Equation) : Type 0 where
  pub goes_on : GoesOn old new
  pub within : AreBelow (extent new) places
  pub many : length places ≡ length vars + length equations
  pub values : (a : List Bool) → Obeys new a → bits_of a places ≡ built (bits_of a vars) equations
