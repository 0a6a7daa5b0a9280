use Rattle.std.proofs.Common.{◌≡◌, ◌+◌, ◌≤◌, drop}
use Rattle.row_meaning.specs.Rows.{row_width}
use Rattle.row_anneal.proofs.fair.is_within.Given as goal

-- what is added is still to come
abbrev pub invariant-loop-cell : goal.invariant-loop-cell
invariant-loop-cell l = record {
  sum : l.wide + row_width l.columns (drop l.cell-index l.row) ≡ row_width l.columns l.row;
  within : l.wide ≤ l.most;
}
