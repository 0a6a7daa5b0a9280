use Rattle.std.proofs.Common.{◌-◌}
use Rattle.grid_core.specs.Numbers.{nodes}
use Rattle.nero_maze.specs.Hulls.{far}
use Rattle.nero_maze.specs.Search.{words_in}
use Rattle.nero_maze.proofs.Levels.{Spilled}
use Rattle.nero_maze.proofs.search.spill.Given as goal

abbrev pub invariant-loop-at : goal.invariant-loop-at
invariant-loop-at l = Spilled l.field.grid (words_in l.field.words) l.field.net (far l.field.grid l.field.hull) l.level
    l.fn.frontier.order.items l.fn.frontier.count l.frontier.order.items l.frontier.marks.items l.frontier.count l.at

abbrev pub decreases-loop-at : goal.decreases-loop-at
decreases-loop-at l = nodes l.field.grid - l.at
