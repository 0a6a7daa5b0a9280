use Rattle.std.proofs.Common.{◌≡◌, filter}
use Rattle.std.specs.List.{range_with_len}
use Rattle.boog_tree.specs.Trees.{is_root}
use Rattle.boog_tree.proofs.least.roots.Given as goal

abbrev pub invariant-loop-number : goal.invariant-loop-number
invariant-loop-number l = l.trees.items ≡ filter (is_root l.held l.graph) (range_with_len 0 l.number)
