use Rattle.std.proofs.Common.{◌≡◌, take}
use Rattle.cell_match.proofs.nodes.copied.Given as goal

abbrev pub invariant-loop-node : goal.invariant-loop-node
invariant-loop-node l = l.copy.items ≡ take l.node-index l.nodes
