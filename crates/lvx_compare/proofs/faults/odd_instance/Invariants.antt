use Rattle.lvx_compare.proofs.Instances.{LeastSoFar}
use Rattle.lvx_compare.proofs.faults.odd_instance.Given as goal

abbrev pub invariant-loop-k : goal.invariant-loop-k
invariant-loop-k l = LeastSoFar l.netlist l.other l.k l.least
