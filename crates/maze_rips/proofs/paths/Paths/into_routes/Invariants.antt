use Rattle.maze_rips.proofs.Laid.{IsTaken}
use Rattle.maze_rips.proofs.paths.Paths.into_routes.Given as goal

abbrev pub invariant-loop-net : goal.invariant-loop-net
invariant-loop-net l = IsTaken l.fn.self l.paths l.net l.trees.items
