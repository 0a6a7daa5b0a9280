use Rattle.std.proofs.Common.{◌≡◌, ◌++◌, drop}
use Rattle.real_boxes.specs.File.{layers_from}
use Rattle.real_boxes.proofs.cif.layers.Given as goal

abbrev pub invariant-loop-layer : goal.invariant-loop-layer
invariant-loop-layer l = l.out ++ layers_from l.layer (drop l.layer l.entries) l.boxes ≡ l.fn.out ++ layers_from 0 l.entries l.boxes
