use Rattle.std.proofs.Common.{ℕ, ◌≡◌, ◌<◌, ◌≤◌, length}
use Rattle.grid_core.specs.Numbers.{nodes}
use Rattle.nero_maze.specs.Hulls.{far}
use Rattle.nero_maze.specs.Search.{Kept, Grown, IsSpread, words_in}
use Rattle.nero_maze.proofs.frontier.expand.Given as goal

abbrev pub invariant-loop-at : goal.invariant-loop-at
invariant-loop-at l = record {
  size : length l.frontier.marks.items ≡ nodes l.field.grid;
  kept : Kept l.frontier.order.items l.frontier.marks.items l.frontier.count;
  grown : Grown l.field.grid (words_in l.field.words) l.field.net (far l.field.grid l.field.hull) l.rise l.fn.span.from l.fn.span.to
      l.fn.frontier.order.items l.fn.frontier.marks.items l.fn.frontier.count l.frontier.order.items l.frontier.marks.items l.frontier.count;
  spread : (j k : ℕ) → l.fn.span.from ≤ j → j < l.at → k < 4
      → IsSpread l.field.grid (words_in l.field.words) l.field.net (far l.field.grid l.field.hull) l.rise l.fn.frontier.order.items l.frontier.marks.items j k;
}
