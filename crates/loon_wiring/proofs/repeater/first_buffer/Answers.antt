use Rattle.loon_wiring.specs.Repeaters.{IsBufferCell}
use Rattle.loon_wiring.proofs.Cells.{first_met, none_met}
use Rattle.loon_wiring.proofs.repeater.first_buffer.Goals as goal

pub returns-then-is_buffer-clause-found : goal.returns-then-is_buffer-clause-found
returns-then-is_buffer-clause-found c =
    first_met IsBufferCell c.args.cells.now c.loop-cell.cell-index c.cell-item.result c.loop-cell-test.true c.cell-item.is (c.is_buffer.ensures.0 c.if-is_buffer.true) c.loop-cell.invariant

pub returns-clause-none : goal.returns-clause-none
returns-clause-none c = none_met IsBufferCell c.args.cells.now c.loop-cell.cell-index c.loop-cell-test.false c.loop-cell.invariant
