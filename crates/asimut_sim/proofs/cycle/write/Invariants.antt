use Rattle.asimut_sim.proofs.CycleLemmas.{Writes}
use Rattle.asimut_sim.proofs.cycle.write.Given as goal

abbrev pub invariant-loop-k : goal.invariant-loop-k
invariant-loop-k l = Writes l.from l.values l.fn.bits l.bits l.k
