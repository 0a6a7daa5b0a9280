use Rattle.net_core.proofs.Least.{LeastSoFar}
use Rattle.net_core.proofs.cycle.least_place.Given as goal

abbrev pub invariant-loop-k : goal.invariant-loop-k
invariant-loop-k l = LeastSoFar l.names l.least l.k
