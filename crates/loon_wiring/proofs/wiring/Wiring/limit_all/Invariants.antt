use Rattle.loon_wiring.proofs.Putting.{LimitingAll}
use Rattle.loon_wiring.proofs.wiring.Wiring.limit_all.Given as goal

abbrev pub invariant-loop-class : goal.invariant-loop-class
invariant-loop-class l = LimitingAll l.repeater l.limit l.fn.self l.self l.loads l.class
