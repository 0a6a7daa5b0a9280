use Rattle.asimut_sim.proofs.ValueLemmas.{Gives}
use Rattle.asimut_sim.proofs.values.given.Given as goal

abbrev pub invariant-loop-k : goal.invariant-loop-k
invariant-loop-k l = Gives l.columns l.values l.k l.bits.items
