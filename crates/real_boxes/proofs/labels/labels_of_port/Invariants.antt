use Rattle.std.proofs.Common.{◌≡◌, ◌++◌, drop}
use Rattle.real_boxes.specs.File.{labels_by}
use Rattle.real_boxes.proofs.labels.labels_of_port.Given as goal

abbrev pub invariant-loop-entry : goal.invariant-loop-entry
invariant-loop-entry l = l.out ++ labels_by l.scale l.port (drop l.entry-index l.entries) ≡ l.fn.out ++ labels_by l.scale l.port l.entries
