use Rattle.std.proofs.Common.{◌≡◌, ◌∷◌, take}
use Rattle.std.specs.Prelude.{flat_map}
use Rattle.maze_wires.proofs.nodes.all_nodes.Given as goal

abbrev pub invariant-loop-path : goal.invariant-loop-path
invariant-loop-path l = l.nodes.items ≡ l.tree.start ∷ flat_map (λ path. path.items) (take l.path-index l.tree.paths.items)
