use Rattle.cell_checks.proofs.ReachedColumns.{FirstReached}
use Rattle.cell_checks.proofs.nodes.access_columns.Given as goal

abbrev pub invariant-loop-pin : goal.invariant-loop-pin
invariant-loop-pin l = FirstReached l.cell l.columns.items l.pin-index
