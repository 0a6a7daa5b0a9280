use Rattle.asimut_sim.proofs.ColumnLemmas.{Falls}
use Rattle.asimut_sim.proofs.columns.push_falling.Given as goal

abbrev pub invariant-loop-step : goal.invariant-loop-step
invariant-loop-step l = Falls l.initial.names.items l.names.items l.text l.last l.count l.step
