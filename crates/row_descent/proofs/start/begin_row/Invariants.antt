use Rattle.std.proofs.Common.{◌≡◌, ◌+◌, ◌<◌, ◌≤◌, ℕ, length, drop, slice_index}
use Rattle.row_meaning.specs.Rows.{x_in, row_width}
use Rattle.row_descent.specs.Spans.{limit}
use Rattle.row_descent.proofs.start.begin_row.Given as goal

-- the cells that are left lead to what all lead to
abbrev pub invariant-loop-cell : goal.invariant-loop-cell
invariant-loop-cell l = record {
  narrow : l.x + row_width l.widths (drop l.cell-index l.row) ≤ limit;
  each : (c : ℕ) → c < length l.starts
      → x_in l.widths l.x (drop l.cell-index l.row) c (slice_index l.starts c) ≡ x_in l.widths l.left l.row c (slice_index l.initial.starts c);
}
