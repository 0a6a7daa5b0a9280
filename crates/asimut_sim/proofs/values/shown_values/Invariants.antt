use Rattle.asimut_sim.proofs.ValueLemmas.{Shows}
use Rattle.asimut_sim.proofs.values.shown_values.Given as goal

abbrev pub invariant-loop-k : goal.invariant-loop-k
invariant-loop-k l = Shows l.columns l.values l.seen l.k l.rest l.made.items
