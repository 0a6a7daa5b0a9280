use Rattle.std.proofs.Common.{◌≡◌, ◌++◌, drop}
use Rattle.real_boxes.specs.Refused.{on_layer}
use Rattle.real_boxes.specs.Shapes.{shapes_of}
use Rattle.real_boxes.proofs.near.shapes_on.Given as goal

abbrev pub invariant-loop-one : goal.invariant-loop-one
invariant-loop-one l = l.shapes.items ++ shapes_of (on_layer l.layer (drop l.one-index l.boxes)) ≡ shapes_of (on_layer l.layer l.boxes)
