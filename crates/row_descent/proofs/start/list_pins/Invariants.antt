use Rattle.std.proofs.Common.{take}
use Rattle.row_descent.specs.Tables.{rows_of, Lists}
use Rattle.row_descent.proofs.start.list_pins.Given as goal

abbrev pub invariant-loop-pin : goal.invariant-loop-pin
invariant-loop-pin l = Lists l.net (take l.pin-index l.pins) (rows_of l.initial.lists) (rows_of l.lists)
