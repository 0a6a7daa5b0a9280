use Rattle.std.proofs.Common.{◌≡◌, ◌++◌, drop}
use Rattle.net_flat.specs.Nodes.{names_by}
use Rattle.net_flat.proofs.parts.register_names.Given as goal

abbrev pub invariant-loop-node : goal.invariant-loop-node
invariant-loop-node l = l.names.items ++ names_by l.parts (drop l.node-index l.nodes) ≡ names_by l.parts l.nodes
