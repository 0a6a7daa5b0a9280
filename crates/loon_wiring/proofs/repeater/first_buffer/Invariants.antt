use Rattle.std.proofs.Common.{ℕ, ◌<◌, get_or}
use Rattle.cell_model.specs.Cell.{Cell}
use Rattle.loon_wiring.specs.Repeaters.{IsBufferCell}
use Rattle.loon_wiring.proofs.repeater.first_buffer.Given as goal

abbrev pub invariant-loop-cell : goal.invariant-loop-cell
invariant-loop-cell l = (j : ℕ) (d : Cell) → j < l.cell-index → IsBufferCell (get_or l.cells j d) → ⊥
