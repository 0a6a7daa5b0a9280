use Rattle.std.proofs.Common.{◌≡◌, ◌<◌, ℕ, length, drop, slice_index}
use Rattle.row_meaning.specs.Rows.{x_of}
use Rattle.row_descent.specs.Tables.{rows_of}
use Rattle.row_descent.proofs.start.begin_rows.Given as goal

-- the rows that are left lead to what all lead to
abbrev pub invariant-loop-row : goal.invariant-loop-row
invariant-loop-row l =
    (c : ℕ) → c < length l.starts
    → x_of l.widths l.left (rows_of (drop l.row-index l.rows)) c (slice_index l.starts c) ≡ x_of l.widths l.left (rows_of l.rows) c (slice_index l.initial.starts c)
