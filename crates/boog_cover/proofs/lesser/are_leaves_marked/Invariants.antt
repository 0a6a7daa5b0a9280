use Rattle.std.proofs.Common.{◌<◌, ℕ, take}
use Rattle.cell_match.specs.Places.{times}
use Rattle.boog_cover.specs.Pruned.{IsMarked}
use Rattle.boog_cover.proofs.lesser.are_leaves_marked.Given as goal

abbrev pub invariant-loop-leaf : goal.invariant-loop-leaf
invariant-loop-leaf l = (x : ℕ) → 0 < times x (take l.leaf-index l.leaves) → IsMarked l.marks x
