use Rattle.std.proofs.Common.{ℕ, ◌<◌, get_or}
use Rattle.cell_model.specs.declared.cell.Pin.{Pin}
use Rattle.cell_checks.specs.Shapes.{HasReach}
use Rattle.cell_checks.proofs.shapes.are_reached.Given as goal

abbrev pub invariant-loop-pin : goal.invariant-loop-pin
invariant-loop-pin l = (i : ℕ) (d : Pin) → i < l.pin-index → HasReach l.shapes (get_or l.pins i d).port.name
