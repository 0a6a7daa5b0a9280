use Rattle.std.proofs.Common.{◌≡◌, drop}
use Rattle.cell_model.specs.Library.{cell_named}
use Rattle.scan_checks.proofs.registers.cell_named.Given as goal

abbrev pub invariant-loop-cell : goal.invariant-loop-cell
invariant-loop-cell l = cell_named (drop l.cell-index l.cells) l.model ≡ cell_named l.cells l.model
