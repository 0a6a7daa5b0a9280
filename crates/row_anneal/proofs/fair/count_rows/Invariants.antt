use Rattle.std.proofs.Common.{◌≡◌, ◌+◌, ℕ, drop, map, slice_index}
use Rattle.row_meaning.specs.Rows.{times}
use Rattle.row_anneal.proofs.fair.count_rows.Given as goal

-- what is counted is still to come
abbrev pub invariant-loop-row : goal.invariant-loop-row
invariant-loop-row l =
    (c : ℕ) → slice_index l.counts c + times (map (λ v. v.items) (drop l.row-index l.rows)) c ≡ slice_index l.initial.counts c + times (map (λ v. v.items) l.rows) c
