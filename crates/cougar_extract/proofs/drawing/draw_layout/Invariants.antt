use Rattle.std.proofs.Common.{◌≡◌, ◌++◌, false, length, replicate, take}
use Rattle.sym_shapes.specs.Shape.{drawn}
use Rattle.cell_model.specs.Layout.{instances_of, all_instances_show}
use Rattle.cell_checks.specs.Checked.{library_of}
use Rattle.cougar_extract.specs.Extracted.{AreKnown}
use Rattle.cougar_extract.specs.Stages.{all_instances_give}
use Rattle.cougar_extract.proofs.drawing.draw_layout.Given as goal

abbrev pub invariant-loop-item : goal.invariant-loop-item
invariant-loop-item l = record {
  shapes : l.drawing.shapes.items ≡ drawn l.items ++ all_instances_show (library_of l.cells) (instances_of (take l.item-index l.items));
  gives : l.drawing.gives.items ≡ replicate (length (drawn l.items)) false ++ all_instances_give (library_of l.cells) (instances_of (take l.item-index l.items));
  known : AreKnown (instances_of (take l.item-index l.items)) (library_of l.cells);
}
