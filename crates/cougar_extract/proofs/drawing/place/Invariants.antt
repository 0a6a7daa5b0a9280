use Rattle.std.proofs.Common.{◌≡◌, ◌++◌, map, take}
use Rattle.sym_shapes.specs.Shape.{Shape}
use Rattle.cell_model.specs.Layout.{placed}
use Rattle.cougar_extract.specs.Stages.{is_output}
use Rattle.cougar_extract.proofs.drawing.place.Given as goal

abbrev pub invariant-loop-shape : goal.invariant-loop-shape
invariant-loop-shape l = record {
  shapes : l.drawing.shapes.items ≡ l.fn.drawing.shapes.items ++ map (placed l.cell l.instance) (take l.shape-index l.shape-items);
  gives : l.drawing.gives.items ≡ l.fn.drawing.gives.items ++ map (λ (s : Shape). is_output l.cell s.name) (take l.shape-index l.shape-items);
}
