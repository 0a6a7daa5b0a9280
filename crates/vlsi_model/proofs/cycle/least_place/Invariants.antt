use Rattle.vlsi_model.proofs.Turning.{LeastSoFar}
use Rattle.vlsi_model.proofs.cycle.least_place.Given as goal

abbrev pub invariant-loop-k : goal.invariant-loop-k
invariant-loop-k l = LeastSoFar l.names l.least l.k
