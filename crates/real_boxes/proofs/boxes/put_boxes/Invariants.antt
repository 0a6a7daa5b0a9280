use Rattle.std.proofs.Common.{◌≡◌, ◌++◌, drop}
use Rattle.real_boxes.specs.Bounds.{AreBoxes}
use Rattle.real_boxes.specs.Boxes.{boxes_by}
use Rattle.real_boxes.proofs.boxes.put_boxes.Given as goal

abbrev pub invariant-loop-entry : goal.invariant-loop-entry
invariant-loop-entry l = record {
  value : l.boxes.items ++ boxes_by l.table.entries l.table.head.scale (drop l.entry-index l.entry-items) l.mark
      ≡ l.fn.boxes.items ++ boxes_by l.table.entries l.table.head.scale l.entry-items l.mark;
  edges : AreBoxes l.boxes.items;
}
