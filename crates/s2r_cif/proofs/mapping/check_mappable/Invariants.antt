use Rattle.std.proofs.Common.{take}
use Rattle.cell_model.specs.Layout.{instances_of}
use Rattle.cell_checks.specs.Checked.{library_of}
use Rattle.s2r_cif.specs.Refused.{AreMappable}
use Rattle.s2r_cif.proofs.mapping.check_mappable.Given as goal

abbrev pub invariant-loop-item : goal.invariant-loop-item
invariant-loop-item l = AreMappable (instances_of (take l.item-index l.items)) (library_of l.cells)
