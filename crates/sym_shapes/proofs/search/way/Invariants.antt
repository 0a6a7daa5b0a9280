use Rattle.std.proofs.Common.{◌<◌, length}
use Rattle.sym_shapes.proofs.Ways.{WayTo}
use Rattle.sym_shapes.proofs.search.way.Given as goal

abbrev pub invariant-loop-at : goal.invariant-loop-at
invariant-loop-at l = record { low : l.at < length l.steps; so_far : WayTo l.steps l.places.items l.start l.at }

abbrev pub decreases-loop-at : goal.decreases-loop-at
decreases-loop-at l = l.at
