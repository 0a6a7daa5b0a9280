-- The moves of steps.
use Rattle.std.specs.Prelude.{◌≡◌, ◌<◌, ℕ, Bool, true, false, List, [], length, map}
use Rattle.std.specs.List.{slice_index_or}
use Rattle.net_core.specs.Places.{Stands}
use Rattle.fsm_walk.specs.declared.step.Step.{Step}
use Rattle.fmi_refine.specs.declared.round.Move.{Move}
use Rattle.fmi_refine.specs.Rows.{move_in}

-- the byte of a bit's digit
abbrev pub digit : Bool → ℕ
digit true = 49
digit false = 48

abbrev pub digits : List Bool → List ℕ
digits bits = map digit bits

-- the step of a list under a vector
abbrev pub step_in : List Step → ℕ → Step
step_in steps v = slice_index_or steps v (record { outs = []; next = 0 })

-- the number is the place of the step's outputs among those that were met, and the next state is the step's
pub record IsMoveOf (met : List (List ℕ)) (step : Step) (m : Move) : Type 0 where
  pub outs : Stands met m.outs (digits step.outs)
  pub next : m.next ≡ step.next

-- a move for each step
pub record AreMovesOf (met : List (List ℕ)) (steps : List Step) (row : List Move) : Type 0 where
  pub each : length row ≡ length steps
  pub made : (v : ℕ) → v < length row → IsMoveOf met (step_in steps v) (move_in row v)
