use Rattle.std.proofs.Common.{◌≡◌, ◌+◌, ◌++◌}
use Rattle.vlsi_base.specs.Range.{rising}
use Rattle.vlsi_base.proofs.range.rising.Given as goal

abbrev pub invariant-loop-left : goal.invariant-loop-left
invariant-loop-left l = (l.next + l.left ≡ l.first + l.fn.count) × (l.bits.items ++ rising l.next l.left ≡ rising l.first l.fn.count)

abbrev pub decreases-loop-left : goal.decreases-loop-left
decreases-loop-left l = l.left
