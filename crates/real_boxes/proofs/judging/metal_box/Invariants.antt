use Rattle.std.proofs.Common.{◌≡◌, drop}
use Rattle.real_boxes.specs.Metals.{metal_box}
use Rattle.real_boxes.proofs.judging.metal_box.Given as goal

abbrev pub invariant-loop-one : goal.invariant-loop-one
invariant-loop-one l = metal_box l.table.entries l.metal (drop l.one-index l.boxes) ≡ metal_box l.table.entries l.metal l.boxes
