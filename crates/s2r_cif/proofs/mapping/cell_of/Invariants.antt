use Rattle.std.proofs.Common.{◌≡◌, drop}
use Rattle.cell_model.specs.Library.{cell_named}
use Rattle.s2r_cif.proofs.mapping.cell_of.Given as goal

-- what is behind answers as the whole does
abbrev pub invariant-loop-cell : goal.invariant-loop-cell
invariant-loop-cell l = cell_named (drop l.cell-index l.cells) l.model ≡ cell_named l.cells l.model
