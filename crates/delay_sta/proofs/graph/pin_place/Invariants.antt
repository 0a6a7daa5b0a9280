use Rattle.delay_sta.proofs.Placing.{LacksName}
use Rattle.delay_sta.proofs.graph.pin_place.Given as goal

abbrev pub invariant-loop-place : goal.invariant-loop-place
invariant-loop-place l = LacksName l.pins l.name l.place
