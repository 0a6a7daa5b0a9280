use Rattle.std.proofs.Common.{◌≡◌, ◌<◌, ℕ, length, map, drop, slice_index}
use Rattle.row_meaning.specs.Rows.{row_of}
use Rattle.row_fill.proofs.stand.number_rows.Given as goal

-- the rows that are left lead to what all lead to
abbrev pub invariant-loop-r : goal.invariant-loop-r
invariant-loop-r l =
    (c : ℕ) → c < length l.numbers
    → row_of l.r (map (λ v. v.items) (drop l.r l.rows)) c (slice_index l.numbers c) ≡ row_of 0 (map (λ v. v.items) l.rows) c (slice_index l.initial.numbers c)
