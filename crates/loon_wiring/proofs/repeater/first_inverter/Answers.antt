use Rattle.loon_wiring.specs.Repeaters.{IsInverterCell}
use Rattle.loon_wiring.proofs.Cells.{first_met, none_met}
use Rattle.loon_wiring.proofs.repeater.first_inverter.Goals as goal

pub returns-then-is_inverter-clause-found : goal.returns-then-is_inverter-clause-found
returns-then-is_inverter-clause-found c =
    first_met IsInverterCell c.args.cells.now c.loop-cell.cell-index c.cell-item.result c.loop-cell-test.true c.cell-item.is (c.is_inverter.ensures.0 c.if-is_inverter.true) c.loop-cell.invariant

pub returns-clause-none : goal.returns-clause-none
returns-clause-none c = none_met IsInverterCell c.args.cells.now c.loop-cell.cell-index c.loop-cell-test.false c.loop-cell.invariant
