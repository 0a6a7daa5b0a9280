use Rattle.std.proofs.Common.{◌≤◌}
use Rattle.row_meaning.specs.Rows.{HaveSameCells}
use Rattle.row_meaning.specs.Length.{block_of, hp}
use Rattle.row_descent.specs.Tables.{rows_of, IsReady}
use Rattle.row_descent.proofs.descent.descend.Given as goal

abbrev pub invariant-loop : goal.invariant-loop
invariant-loop l = record {
  ready : IsReady (block_of l.cells) (rows_of l.rows) l.table;
  lower : hp (block_of l.cells) (rows_of l.rows) ≤ hp (block_of l.cells) (rows_of l.fn.rows);
  same : HaveSameCells (rows_of l.fn.rows) (rows_of l.rows);
}

-- each time before the last lowers the length
abbrev pub decreases-loop : goal.decreases-loop
decreases-loop l = hp (block_of l.cells) (rows_of l.rows)
