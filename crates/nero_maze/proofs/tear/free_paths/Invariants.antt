use Rattle.std.proofs.Common.{ℕ, ◌≡◌, ◌<◌, slice_index}
use Rattle.nero_maze.specs.Search.{reserved_in}
use Rattle.nero_maze.specs.Ripping.{IsFreedFrom}
use Rattle.nero_maze.proofs.tear.free_paths.Given as goal

abbrev pub invariant-loop-at : goal.invariant-loop-at
invariant-loop-at l = IsFreedFrom l.net (reserved_in l.fn.room.owners.items l.reserved.items)
    (λ v. (i : ℕ) × (i < l.at) × (slice_index l.log.order.items i ≡ v)) l.fn.room l.room
