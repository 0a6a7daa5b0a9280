use Rattle.std.proofs.Common.{◌≡◌, length, take}
use Rattle.maze_rips.specs.Paths.{paths_in, HasNow}
use Rattle.maze_rips.proofs.paths.Paths.tear.Given as goal

abbrev pub invariant-loop-self : goal.invariant-loop-self
invariant-loop-self l = record {
  now : HasNow l.net (paths_in l.self l.net) l.fn.self l.self;
  first : take 1 (paths_in l.self l.net) ≡ take 1 (paths_in l.fn.self l.net);
}

abbrev pub decreases-loop-self : goal.decreases-loop-self
decreases-loop-self l = length (paths_in l.self l.net)
