use Rattle.std.proofs.Common.{◌≡◌, ◌+◌, ℕ, drop, slice_index}
use Rattle.row_meaning.specs.Rows.{times_in}
use Rattle.row_anneal.proofs.fair.count_row.Given as goal

-- what is counted is still to come
abbrev pub invariant-loop-cell : goal.invariant-loop-cell
invariant-loop-cell l = (c : ℕ) → slice_index l.counts c + times_in (drop l.cell-index l.row) c ≡ slice_index l.initial.counts c + times_in l.row c
