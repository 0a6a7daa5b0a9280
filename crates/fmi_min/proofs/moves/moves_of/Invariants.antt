use Rattle.std.proofs.Common.{◌≡◌, ◌<◌, ℕ, length}
use Rattle.net_core.specs.Places.{Begins}
use Rattle.fmi_refine.specs.Rows.{move_in}
use Rattle.fmi_min.specs.Moves.{step_in, IsMoveOf}
use Rattle.fmi_min.proofs.moves.moves_of.Given as goal

-- the moves so far
abbrev pub invariant-loop-step : goal.invariant-loop-step
invariant-loop-step l = record {
  grown : Begins l.initial.met l.met;
  each : length l.moves.items ≡ l.step-index;
  made : (v : ℕ) → v < length l.moves.items → IsMoveOf l.met (step_in l.steps v) (move_in l.moves.items v);
}
