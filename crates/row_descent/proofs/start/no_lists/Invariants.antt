use Rattle.std.proofs.Common.{◌≡◌, ℕ, [], length}
use Rattle.row_meaning.specs.Rows.{row_at}
use Rattle.row_descent.specs.Tables.{rows_of}
use Rattle.row_descent.proofs.start.no_lists.Given as goal

abbrev pub invariant-loop : goal.invariant-loop
invariant-loop l = record {
  length : length l.lists.items ≡ l.counter;
  empty : (c : ℕ) → row_at (rows_of l.lists.items) c ≡ [];
}
