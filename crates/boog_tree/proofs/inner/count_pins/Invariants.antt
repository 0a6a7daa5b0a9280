use Rattle.std.proofs.Common.{◌≡◌, ℕ, map, take, get_or, min}
use Rattle.subject_table.specs.View.{node_view}
use Rattle.boog_tree.specs.Trees.{pin_uses}
use Rattle.boog_tree.proofs.inner.count_pins.Given as goal

abbrev pub invariant-loop-node : goal.invariant-loop-node
invariant-loop-node l = (x : ℕ) → get_or l.uses x 0 ≡ min (pin_uses x (take l.node-index (map node_view l.nodes))) 255
