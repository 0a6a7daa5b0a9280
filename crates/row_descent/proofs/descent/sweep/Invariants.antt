use Rattle.std.proofs.Common.{◌≡◌, ◌<◌, ℕ, false}
use Rattle.row_meaning.specs.Length.{block_of}
use Rattle.row_descent.specs.Tables.{rows_of, IsReady}
use Rattle.row_descent.specs.Steps.{IsStep}
use Rattle.row_descent.proofs.Stepping.{RowStays}
use Rattle.row_descent.proofs.descent.sweep.Given as goal

-- where nothing was exchanged, no exchange in the rows so far lowers the length
abbrev pub invariant-loop-row : goal.invariant-loop-row
invariant-loop-row l = record {
  ready : IsReady (block_of l.cells) (rows_of l.rows) l.table;
  step : IsStep (block_of l.cells) (rows_of l.fn.rows) (rows_of l.rows) l.changed;
  stays : l.changed ≡ false → (r : ℕ) → r < l.row → RowStays (block_of l.cells) (rows_of l.fn.rows) r;
}
