use Rattle.std.proofs.Common.{take}
use Rattle.scan_checks.specs.Refused.{AreInOrder}
use Rattle.scan_checks.proofs.order.picked.Given as goal

abbrev pub invariant-loop-text : goal.invariant-loop-text
invariant-loop-text l = AreInOrder l.registers (take l.text-index l.path) l.picked.items
