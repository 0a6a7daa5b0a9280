use Rattle.std.proofs.Common.{length}
use Rattle.loon_wiring.proofs.Putting.{Limiting}
use Rattle.loon_wiring.proofs.wiring.Wiring.limit_class.Given as goal

abbrev pub invariant-loop-alloc : goal.invariant-loop-alloc
invariant-loop-alloc l = Limiting l.repeater l.limit l.class l.fn.self l.self l.sinks l.left.items

abbrev pub decreases-loop-alloc : goal.decreases-loop-alloc
decreases-loop-alloc l = length l.left.items
