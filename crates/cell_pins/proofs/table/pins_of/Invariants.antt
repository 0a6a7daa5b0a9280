use Rattle.std.proofs.Common.{take}
use Rattle.cell_model.specs.View.{function_view}
use Rattle.cell_pins.specs.Table.{ArePins}
use Rattle.cell_pins.proofs.table.pins_of.Given as goal

abbrev pub invariant-loop-port : goal.invariant-loop-port
invariant-loop-port l = ArePins (function_view l.function) l.ports (take l.port-index l.ports) l.pins.items
