use Rattle.sym_shapes.specs.Holders.{AreSpots}
use Rattle.sym_shapes.proofs.holders.spots.Given as goal

abbrev pub invariant-loop-k : goal.invariant-loop-k
invariant-loop-k l = AreSpots l.k l.spots.items
