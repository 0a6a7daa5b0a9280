use Rattle.asimut_sim.proofs.ColumnLemmas.{Rises}
use Rattle.asimut_sim.proofs.columns.push_rising.Given as goal

abbrev pub invariant-loop-step : goal.invariant-loop-step
invariant-loop-step l = Rises l.initial.names.items l.names.items l.text l.first l.count l.step
