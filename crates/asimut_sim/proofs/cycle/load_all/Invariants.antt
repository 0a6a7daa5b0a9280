use Rattle.asimut_sim.proofs.LoadsLemmas.{Written}
use Rattle.asimut_sim.proofs.cycle.load_all.Given as goal

abbrev pub invariant-loop-k : goal.invariant-loop-k
invariant-loop-k l = Written l.bits l.loads l.fn.contents l.k l.contents
