use Rattle.std.proofs.Common.{ℕ, ◌≡◌, ◌+◌, ◌<◌, length}
use Rattle.grid_core.specs.Numbers.{nodes}
use Rattle.nero_maze.specs.Hulls.{far}
use Rattle.nero_maze.specs.Search.{Kept, Grown, IsSpread, words_in}
use Rattle.nero_maze.proofs.frontier.expand_one.Given as goal

abbrev pub invariant-loop-way : goal.invariant-loop-way
invariant-loop-way l = record {
  size : length l.frontier.marks.items ≡ nodes l.field.grid;
  kept : Kept l.frontier.order.items l.frontier.marks.items l.frontier.count;
  grown : Grown l.field.grid (words_in l.field.words) l.field.net (far l.field.grid l.field.hull) l.rise l.at (l.at + 1)
      l.fn.frontier.order.items l.fn.frontier.marks.items l.fn.frontier.count l.frontier.order.items l.frontier.marks.items l.frontier.count;
  spread : (k : ℕ) → k < l.way
      → IsSpread l.field.grid (words_in l.field.words) l.field.net (far l.field.grid l.field.hull) l.rise l.fn.frontier.order.items l.frontier.marks.items l.at k;
}
