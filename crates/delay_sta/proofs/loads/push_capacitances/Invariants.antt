use Rattle.std.proofs.Common.{◌≡◌, ◌++◌, take, map}
use Rattle.delay_sta.specs.Loads.{input_capacitance}
use Rattle.delay_sta.proofs.loads.push_capacitances.Given as goal

abbrev pub invariant-loop-name : goal.invariant-loop-name
invariant-loop-name l = l.capacitances.items ≡ l.initial.capacitances.items ++ map (input_capacitance l.cell_pins) (take l.name-index l.names)
