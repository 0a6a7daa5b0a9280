use Rattle.delay_sta.proofs.Passing.{MarkedSoFar}
use Rattle.delay_sta.proofs.settle.mark.Given as goal

abbrev pub invariant-loop-class : goal.invariant-loop-class
invariant-loop-class l = MarkedSoFar l.classes l.initial.stale l.stale l.class-index
