use Rattle.std.proofs.Common.{◌≡◌, ◌++◌, drop}
use Rattle.real_boxes.specs.Marks.{drawn_marks}
use Rattle.real_boxes.proofs.mark.drawn_by.Given as goal

abbrev pub invariant-loop-item : goal.invariant-loop-item
invariant-loop-item l = l.marks.items ++ drawn_marks (drop l.item-index l.items) ≡ drawn_marks l.items
