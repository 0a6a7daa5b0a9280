use Rattle.std.proofs.Common.{◌≡◌, length}
use Rattle.maze_rips.specs.Paths.{paths_in}
use Rattle.maze_rips.specs.Progress.{IsFinishing}
use Rattle.maze_rips.proofs.work.finish.Given as goal

abbrev pub invariant-loop-at : goal.invariant-loop-at
invariant-loop-at l = record {
  finishing : IsFinishing l.task l.net l.fn.work l.work;
  reached : length (paths_in l.work.paths l.net) ≡ l.at;
}
