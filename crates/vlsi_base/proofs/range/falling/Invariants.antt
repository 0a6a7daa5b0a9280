use Rattle.std.proofs.Common.{◌≡◌, ◌++◌, ◌≤◌}
use Rattle.vlsi_base.specs.Range.{falling}
use Rattle.vlsi_base.proofs.range.falling.Given as goal

abbrev pub invariant-loop-left : goal.invariant-loop-left
invariant-loop-left l = (l.left ≤ l.fn.count) × (l.bits.items ++ falling l.last l.left ≡ falling l.last l.fn.count)

abbrev pub decreases-loop-left : goal.decreases-loop-left
decreases-loop-left l = l.left
