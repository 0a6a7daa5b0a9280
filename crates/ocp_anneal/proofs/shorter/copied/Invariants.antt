use Rattle.std.proofs.Common.{◌≡◌, take}
use Rattle.row_descent.specs.Tables.{rows_of}
use Rattle.ocp_anneal.proofs.shorter.copied.Given as goal

abbrev pub invariant-loop-row : goal.invariant-loop-row
invariant-loop-row l = rows_of l.copy.items ≡ rows_of (take l.row-index l.rows)
