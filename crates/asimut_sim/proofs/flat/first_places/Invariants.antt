use Rattle.std.proofs.Common.{◌≡◌}
use Rattle.vlsi_base.specs.Range.{rising}
use Rattle.asimut_sim.proofs.flat.first_places.Given as goal

abbrev pub invariant-loop-k : goal.invariant-loop-k
invariant-loop-k l = l.places.items ≡ rising 2 l.k
