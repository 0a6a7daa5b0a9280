use Rattle.std.proofs.Common.{map}
use Rattle.delay_sta.specs.Loads.{input_capacitance}
use Rattle.delay_sta.proofs.Reloading.{TakenSoFar}
use Rattle.delay_sta.proofs.exchange.take_loads.Given as goal

abbrev pub invariant-loop-k : goal.invariant-loop-k
invariant-loop-k l = TakenSoFar (map (input_capacitance l.pins) l.names) l.classes l.initial.loads l.loads l.k
