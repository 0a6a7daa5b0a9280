use Rattle.asimut_sim.proofs.ColumnLemmas.{Lists}
use Rattle.asimut_sim.proofs.columns.listed_names.Given as goal

abbrev pub invariant-loop-column : goal.invariant-loop-column
invariant-loop-column l = Lists l.columns l.names.items l.column-index
