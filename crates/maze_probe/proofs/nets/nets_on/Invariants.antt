use Rattle.maze_probe.proofs.Building.{AreBuilt}
use Rattle.maze_probe.proofs.nets.nets_on.Given as goal

abbrev pub invariant-loop-at : goal.invariant-loop-at
invariant-loop-at l = AreBuilt l.trial.grid.columns l.trial.pins l.places l.at l.nets.items
