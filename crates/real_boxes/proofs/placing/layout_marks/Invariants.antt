use Rattle.std.proofs.Common.{◌≡◌, ◌++◌, drop}
use Rattle.cell_checks.specs.Checked.{library_of}
use Rattle.real_boxes.specs.Marks.{shown_marks, marks}
use Rattle.real_boxes.proofs.placing.layout_marks.Given as goal

abbrev pub invariant-loop-item : goal.invariant-loop-item
invariant-loop-item l = l.marks.items ++ shown_marks (library_of l.cells) (drop l.item-index l.items) ≡ marks (library_of l.cells) l.items
