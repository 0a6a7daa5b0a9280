use Rattle.std.proofs.Common.{◌≡◌, ◌++◌, drop}
use Rattle.real_boxes.specs.File.{labels_of}
use Rattle.real_boxes.proofs.labels.labels.Given as goal

abbrev pub invariant-loop-item : goal.invariant-loop-item
invariant-loop-item l = l.out ++ labels_of l.scale l.entries (drop l.item-index l.items) ≡ l.fn.out ++ labels_of l.scale l.entries l.items
