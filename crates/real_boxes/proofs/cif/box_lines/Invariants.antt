use Rattle.std.proofs.Common.{◌≡◌, ◌++◌, drop}
use Rattle.real_boxes.specs.File.{lines_on}
use Rattle.real_boxes.proofs.cif.box_lines.Given as goal

abbrev pub invariant-loop-one : goal.invariant-loop-one
invariant-loop-one l = l.out ++ lines_on l.layer (drop l.one-index l.boxes) ≡ l.fn.out ++ lines_on l.layer l.boxes
