use Rattle.delay_sta.proofs.Edges.{WorstSoFar}
use Rattle.delay_sta.proofs.arrivals.worst.Given as goal

abbrev pub invariant-loop-class : goal.invariant-loop-class
invariant-loop-class l = WorstSoFar l.delays.arrivals.items l.delays.ends.items l.class-index l.worst
