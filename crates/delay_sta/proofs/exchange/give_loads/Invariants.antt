use Rattle.std.proofs.Common.{map}
use Rattle.delay_sta.specs.Loads.{input_capacitance}
use Rattle.delay_sta.proofs.Reloading.{GivenSoFar}
use Rattle.delay_sta.proofs.exchange.give_loads.Given as goal

abbrev pub invariant-loop-k : goal.invariant-loop-k
invariant-loop-k l = GivenSoFar (map (input_capacitance l.pins) l.names) l.classes l.initial.loads l.loads l.k
