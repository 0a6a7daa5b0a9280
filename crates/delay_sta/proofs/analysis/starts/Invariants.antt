use Rattle.delay_sta.proofs.Edges.{StartedSoFar}
use Rattle.delay_sta.proofs.analysis.starts.Given as goal

abbrev pub invariant-loop-k : goal.invariant-loop-k
invariant-loop-k l = StartedSoFar l.fn.netlist l.arrivals.items l.k
