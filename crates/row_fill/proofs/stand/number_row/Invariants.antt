use Rattle.std.proofs.Common.{◌≡◌, ◌<◌, ℕ, length, drop, slice_index, if◌then◌else◌}
use Rattle.row_meaning.specs.Rows.{stands_in}
use Rattle.row_fill.proofs.stand.number_row.Given as goal

-- the cells that are left lead to what all lead to
abbrev pub invariant-loop-cell : goal.invariant-loop-cell
invariant-loop-cell l =
    (c : ℕ) → c < length l.numbers
    → (if stands_in (drop l.cell-index l.row) c then l.number else slice_index l.numbers c)
    ≡ (if stands_in l.row c then l.number else slice_index l.initial.numbers c)
