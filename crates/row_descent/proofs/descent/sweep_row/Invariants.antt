use Rattle.std.proofs.Common.{◌≡◌, ◌≤◌, ◌<◌, ℕ, false}
use Rattle.row_meaning.specs.Rows.{exchanged}
use Rattle.row_meaning.specs.Length.{block_of, hp}
use Rattle.row_descent.specs.Tables.{rows_of, IsReady}
use Rattle.row_descent.specs.Steps.{IsStep}
use Rattle.row_descent.proofs.descent.sweep_row.Given as goal

-- where nothing was exchanged, no exchange at the places so far lowers the length
abbrev pub invariant-loop-place : goal.invariant-loop-place
invariant-loop-place l = record {
  ready : IsReady (block_of l.cells) (rows_of l.rows) l.table;
  step : IsStep (block_of l.cells) (rows_of l.fn.rows) (rows_of l.rows) l.changed;
  stays : l.changed ≡ false → (k : ℕ) → k < l.place → hp (block_of l.cells) (rows_of l.fn.rows) ≤ hp (block_of l.cells) (exchanged (rows_of l.fn.rows) l.row k);
}
