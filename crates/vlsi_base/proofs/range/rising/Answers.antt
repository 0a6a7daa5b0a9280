use Rattle.std.proofs.Common.{arith}
use Rattle.vlsi_base.proofs.Ranges.{rising_turn}
use Rattle.vlsi_base.proofs.range.rising.Goals as goal

pub loop-left-preserved : goal.loop-left-preserved
loop-left-preserved c = (
  omega arith,
  rising_turn c.loop-left.next c.loop-left.left c.loop-left.bits.items _ _ (omega arith) c.in_ok-push.ensures.items c.loop-left.invariant.1,
)
