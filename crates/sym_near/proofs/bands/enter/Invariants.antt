use Rattle.sym_near.proofs.Enters.{Climbs}
use Rattle.sym_near.proofs.bands.enter.Given as goal

abbrev pub invariant-loop-band : goal.invariant-loop-band
invariant-loop-band l = Climbs l.fn.entries.items l.entries.items l.metal l.across.low l.across.high l.place l.low l.band
