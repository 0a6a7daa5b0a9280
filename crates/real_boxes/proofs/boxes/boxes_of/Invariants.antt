use Rattle.std.proofs.Common.{◌≡◌, ◌++◌, drop}
use Rattle.real_boxes.specs.Bounds.{AreBoxes}
use Rattle.real_boxes.specs.Boxes.{boxes_of}
use Rattle.real_boxes.proofs.boxes.boxes_of.Given as goal

abbrev pub invariant-loop-mark : goal.invariant-loop-mark
invariant-loop-mark l = record {
  value : l.boxes.items ++ boxes_of l.table.entries l.table.head.scale (drop l.mark-index l.marks) ≡ boxes_of l.table.entries l.table.head.scale l.marks;
  edges : AreBoxes l.boxes.items;
}
