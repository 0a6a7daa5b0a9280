use Rattle.std.proofs.Common.{◌≡◌, drop}
use Rattle.delay_sta.specs.Loads.{input_capacitance}
use Rattle.delay_sta.proofs.loads.input_capacitance.Given as goal

abbrev pub invariant-loop-pin : goal.invariant-loop-pin
invariant-loop-pin l = input_capacitance (drop l.pin-index l.pins) l.name ≡ input_capacitance l.pins l.name
