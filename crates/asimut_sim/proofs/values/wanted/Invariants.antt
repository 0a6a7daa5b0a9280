use Rattle.asimut_sim.proofs.ValueLemmas.{Wants}
use Rattle.asimut_sim.proofs.values.wanted.Given as goal

abbrev pub invariant-loop-k : goal.invariant-loop-k
invariant-loop-k l = Wants l.columns l.values l.k l.bits.items
