use Rattle.std.proofs.Common.{◌≡◌, ◌<◌, ℕ, slice_index}
use Rattle.nero_maze.specs.Search.{IsOwn}
use Rattle.nero_maze.specs.Hulls.{far}
use Rattle.nero_maze.proofs.hull.hull_of_logged.Given as goal

abbrev pub invariant-loop-at : goal.invariant-loop-at
invariant-loop-at l = (i : ℕ) → i < l.at → IsOwn l.room.owners.items l.room.links.items l.net (slice_index l.log.order.items i)
    → far l.room.grid l.hull (slice_index l.log.order.items i) ≡ 0
