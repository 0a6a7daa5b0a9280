use Rattle.std.proofs.Common.{take}
use Rattle.cell_match.specs.Places.{AreRead}
use Rattle.cell_match.proofs.nodes.read.Given as goal

abbrev pub invariant-loop-leaf : goal.invariant-loop-leaf
invariant-loop-leaf l = AreRead l.first (take l.leaf-index l.second) l.a l.nodes.items
