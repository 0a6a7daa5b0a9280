use Rattle.std.proofs.Common.{true}
use Rattle.row_meaning.specs.Length.{block_of}
use Rattle.row_descent.specs.Tables.{rows_of, IsReady}
use Rattle.row_descent.specs.Steps.{IsStep}
use Rattle.row_descent.proofs.descent.sink.Given as goal

-- there was an exchange
abbrev pub invariant-loop-left : goal.invariant-loop-left
invariant-loop-left l = record {
  ready : IsReady (block_of l.cells) (rows_of l.rows) l.table;
  step : IsStep (block_of l.cells) (rows_of l.fn.rows) (rows_of l.rows) true;
}
