use Rattle.maze_probe.specs.Spots.{AreSpread}
use Rattle.maze_probe.proofs.places.spread.Given as goal

abbrev pub invariant-loop-at : goal.invariant-loop-at
invariant-loop-at l = AreSpread l.share l.at l.places.items
