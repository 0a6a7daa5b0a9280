use Rattle.asimut_sim.proofs.CycleLemmas.{rising_next}
use Rattle.asimut_sim.proofs.flat.first_places.Goals as goal

pub loop-k-preserved : goal.loop-k-preserved
loop-k-preserved c = rising_next c.loop-k.k c.loop-k.places.items _ _ c.in_ok-place_behind.ensures c.in_ok-push.ensures.items c.loop-k.invariant
