use Rattle.asimut_sim.proofs.ValueLemmas.{Agrees}
use Rattle.asimut_sim.proofs.values.other_place.Given as goal

abbrev pub invariant-loop-k : goal.invariant-loop-k
invariant-loop-k l = Agrees l.wanted l.seen l.k
