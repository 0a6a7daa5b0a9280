use Rattle.std.proofs.Common.{◌≡◌, ◌++◌, drop, map}
use Rattle.scan_checks.proofs.names.node_names.Given as goal

abbrev pub invariant-loop-node : goal.invariant-loop-node
invariant-loop-node l = l.names.items ++ map (λ i. i.name) (drop l.node-index l.nodes) ≡ map (λ i. i.name) l.nodes
