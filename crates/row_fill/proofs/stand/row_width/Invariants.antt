use Rattle.std.proofs.Common.{◌≡◌, ◌+◌, drop}
use Rattle.row_meaning.specs.Rows.{row_width}
use Rattle.row_fill.proofs.stand.row_width.Given as goal

-- what is added is still to come
abbrev pub invariant-loop-cell : goal.invariant-loop-cell
invariant-loop-cell l = l.width + row_width l.widths (drop l.cell-index l.row) ≡ row_width l.widths l.row
