use Rattle.std.proofs.Common.{◌≡◌, ◌++◌, drop}
use Rattle.real_boxes.specs.Metals.{metal_shapes}
use Rattle.real_boxes.proofs.metals.metal_shapes.Given as goal

abbrev pub invariant-loop-mark : goal.invariant-loop-mark
invariant-loop-mark l = l.shapes.items ++ metal_shapes (drop l.mark-index l.marks) ≡ metal_shapes l.marks
