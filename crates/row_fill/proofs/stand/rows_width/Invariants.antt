use Rattle.std.proofs.Common.{◌≡◌, drop, map, max}
use Rattle.row_meaning.specs.Rows.{rows_width}
use Rattle.row_fill.proofs.stand.rows_width.Given as goal

abbrev pub invariant-loop-row : goal.invariant-loop-row
invariant-loop-row l = max l.width (rows_width l.widths (map (λ v. v.items) (drop l.row-index l.rows))) ≡ rows_width l.widths (map (λ v. v.items) l.rows)
