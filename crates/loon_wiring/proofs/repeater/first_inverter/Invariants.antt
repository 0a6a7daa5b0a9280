use Rattle.std.proofs.Common.{ℕ, ◌<◌, get_or}
use Rattle.cell_model.specs.Cell.{Cell}
use Rattle.loon_wiring.specs.Repeaters.{IsInverterCell}
use Rattle.loon_wiring.proofs.repeater.first_inverter.Given as goal

abbrev pub invariant-loop-cell : goal.invariant-loop-cell
invariant-loop-cell l = (j : ℕ) (d : Cell) → j < l.cell-index → IsInverterCell (get_or l.cells j d) → ⊥
