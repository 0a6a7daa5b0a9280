use Rattle.delay_sta.proofs.Finding.{LacksPin}
use Rattle.delay_sta.proofs.graph.has_pin.Given as goal

abbrev pub invariant-loop-pin : goal.invariant-loop-pin
invariant-loop-pin l = LacksPin l.pins l.dir l.name l.pin-index
