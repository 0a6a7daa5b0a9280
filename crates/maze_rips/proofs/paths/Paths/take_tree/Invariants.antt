use Rattle.std.proofs.Common.{◌≡◌, ◌++◌, length, map, reverse}
use Rattle.maze_rips.specs.Paths.{paths_in, HasNow}
use Rattle.maze_rips.proofs.paths.Paths.take_tree.Given as goal

abbrev pub invariant-loop-path : goal.invariant-loop-path
invariant-loop-path l = record {
  now : HasNow l.net (paths_in l.self l.net) l.fn.self l.self;
  all : paths_in l.self l.net ++ reverse (map (λ path. path.items) l.taken.items) ≡ paths_in l.fn.self l.net;
}

abbrev pub decreases-loop-path : goal.decreases-loop-path
decreases-loop-path l = length (paths_in l.self l.net)
