use Rattle.sym_shapes.proofs.Grown.{Climbs}
use Rattle.sym_shapes.proofs.bands.enter.Given as goal

abbrev pub invariant-loop-band : goal.invariant-loop-band
invariant-loop-band l = Climbs l.fn.entries.items l.entries.items l.metal l.rect l.place l.low l.band
