use Rattle.std.proofs.Common.{ℕ, ◌-◌, ◌≡◌, ◌+◌, ◌*◌, ◌<◌, ◌≤◌, slice_index}
use Rattle.grid_core.specs.Numbers.{nodes}
use Rattle.nero_maze.specs.Search.{IsOwn, words_in}
use Rattle.nero_maze.specs.Hulls.{far}
use Rattle.nero_maze.specs.Levels.{Knows, Flat, Spread}
use Rattle.nero_maze.proofs.search.search.Given as goal

abbrev pub invariant-loop-level : goal.invariant-loop-level
invariant-loop-level l = record {
  target : l.level.target ≡ l.target;
  knows : Knows l.room.grid (words_in l.fn.words) l.net (far l.room.grid l.fn.hull) l.level l.frontier.order.items l.frontier.marks.items l.frontier.count;
  flat : Flat l.frontier.order.items l.frontier.marks.items l.level.first;
  spread : Spread l.room.grid (words_in l.fn.words) l.net (far l.room.grid l.fn.hull) l.level l.frontier.order.items l.frontier.marks.items l.level.first;
  unmet : (i : ℕ) → i < l.level.first → IsOwn l.room.owners.items l.room.links.items l.net (slice_index l.frontier.order.items i) → ⊥;
  bound : l.level.sum ≤ 42949672960 + (l.level.six + l.level.five + l.level.four + l.level.three + l.level.two + l.level.one + l.level.first);
}

abbrev pub decreases-loop-level : goal.decreases-loop-level
decreases-loop-level l = 7 * nodes l.room.grid - (l.level.six + l.level.five + l.level.four + l.level.three + l.level.two + l.level.one + l.level.first)
