use Rattle.cell_model.specs.View.{function_view}
use Rattle.cell_pins.specs.Table.{no_pins}
use Rattle.cell_pins.proofs.Listed.{pins_more}
use Rattle.cell_pins.proofs.table.pins_of.Goals as goal

pub loop-port-init : goal.loop-port-init
loop-port-init c = rw c.new-pins.ensures.items no_pins

pub loop-port-preserved : goal.loop-port-preserved
loop-port-preserved c =
    rw c.in_ok-push.ensures.items
    (pins_more (function_view c.args.function.now) c.args.ports.now c.loop-port.pins.items c.port-item.result c.in_ok-pin_of.field-0 c.loop-port.port-index
    c.loop-port-test.true c.port-item.is c.loop-port.invariant c.in_ok-pin_of.ensures)
