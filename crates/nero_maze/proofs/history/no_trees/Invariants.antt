use Rattle.std.proofs.Common.{◌≡◌, ℕ, length, None}
use Rattle.grid_core.specs.Shown.{shown_routes, tree_in}
use Rattle.nero_maze.proofs.history.no_trees.Given as goal

abbrev pub invariant-loop : goal.invariant-loop
invariant-loop l = record {
  many : length l.trees.items ≡ l.counter;
  none : (k : ℕ) → tree_in (shown_routes l.trees.items) k ≡ None;
}
