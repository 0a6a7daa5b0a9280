use Rattle.std.proofs.Common.{◌≡◌, map, take}
use Rattle.s2r_cif.specs.Real.{AreRealBoxes, box_of}
use Rattle.s2r_cif.proofs.making.boxes.Given as goal

abbrev pub invariant-loop-shape : goal.invariant-loop-shape
invariant-loop-shape l = record {
  value : l.made.items ≡ map (box_of l.table) (take l.shape-index l.shapes);
  edges : AreRealBoxes l.made.items;
}
