use Rattle.std.proofs.Common.{◌≡◌, ◌<◌, ℕ}
use Rattle.nero_maze.specs.Search.{IsOwn}
use Rattle.nero_maze.specs.Hulls.{far}
use Rattle.nero_maze.proofs.hull.hull_of_tree.Given as goal

abbrev pub invariant-loop-node : goal.invariant-loop-node
invariant-loop-node l = (v : ℕ) → v < l.node → IsOwn l.room.owners.items l.room.links.items l.net v → far l.room.grid l.hull v ≡ 0
