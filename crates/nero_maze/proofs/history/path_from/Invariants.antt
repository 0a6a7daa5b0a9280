use Rattle.std.proofs.Common.{◌∷◌, ◌+◌, ◌-◌, map, length}
use Rattle.grid_core.specs.Numbers.{nodes, node_of}
use Rattle.nero_maze.specs.Board.{follow}
use Rattle.nero_maze.proofs.Telling.{Walked}
use Rattle.nero_maze.proofs.history.path_from.Given as goal

abbrev pub invariant-loop-on : goal.invariant-loop-on
invariant-loop-on l = Walked l.room.grid l.room.links.items
    (map (node_of l.room.grid) (l.end ∷ follow l.room.grid l.room.links.items (nodes l.room.grid) l.end)) l.path.items l.node

abbrev pub decreases-loop-on : goal.decreases-loop-on
decreases-loop-on l = nodes l.room.grid + 1 - length l.path.items
