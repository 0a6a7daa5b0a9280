use Rattle.std.proofs.Common.{map, []}
use Rattle.net_core.proofs.Learning.{AreLearned}
use Rattle.lvx_compare.proofs.faults.instance_names.Given as goal

abbrev pub invariant-loop-node : goal.invariant-loop-node
invariant-loop-node l = AreLearned [] l.names (map (λ i. i.name) l.node-items) l.node-index
