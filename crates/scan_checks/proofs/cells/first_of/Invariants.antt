use Rattle.std.proofs.Common.{ℕ, ◌<◌, get_or}
use Rattle.cell_model.specs.Cell.{Cell}
use Rattle.scan_checks.proofs.Found.{IsOfKind}
use Rattle.scan_checks.proofs.cells.first_of.Given as goal

abbrev pub invariant-loop-cell : goal.invariant-loop-cell
invariant-loop-cell l = (j : ℕ) (d : Cell) → j < l.cell-index → IsOfKind l.kind (get_or l.cells j d) → ⊥
