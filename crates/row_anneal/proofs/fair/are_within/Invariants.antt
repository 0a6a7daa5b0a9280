use Rattle.std.proofs.Common.{ℕ, ◌<◌, ◌≤◌, map}
use Rattle.row_meaning.specs.Rows.{row_at, row_width}
use Rattle.row_anneal.proofs.fair.are_within.Given as goal

abbrev pub invariant-loop-row : goal.invariant-loop-row
invariant-loop-row l = (r : ℕ) → r < l.row-index → row_width l.columns (row_at (map (λ v. v.items) l.rows) r) ≤ l.most
