use Rattle.std.proofs.Common.{◌≡◌, ◌++◌, drop}
use Rattle.real_boxes.specs.Metals.{metal_boxes}
use Rattle.real_boxes.proofs.metals.metal_boxes.Given as goal

abbrev pub invariant-loop-mark : goal.invariant-loop-mark
invariant-loop-mark l = l.shapes.items ++ metal_boxes l.table (drop l.mark-index l.marks) ≡ metal_boxes l.table l.marks
