use Rattle.std.proofs.Common.{ℕ, ◌<◌, ◌≤◌, slice_index}
use Rattle.nero_maze.specs.Search.{IsOwn}
use Rattle.nero_maze.proofs.frontier.met.Given as goal

abbrev pub invariant-loop-i : goal.invariant-loop-i
invariant-loop-i l = (k : ℕ) → l.from ≤ k → k < l.i → IsOwn l.room.owners.items l.room.links.items l.net (slice_index l.frontier.order.items k) → ⊥
