use Rattle.std.proofs.Common.{take}
use Rattle.druc_rules.specs.Breaches.{AreWidths}
use Rattle.druc_rules.proofs.breaking.widths.Given as goal

abbrev pub invariant-loop-shape : goal.invariant-loop-shape
invariant-loop-shape l = AreWidths l.width (take l.shape-index l.shapes) l.found.items
