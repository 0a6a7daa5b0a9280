use Rattle.std.proofs.Common.{arith, ◌∙◌, ap, ◌++◌, ◌∷◌, [], ◌+◌, ◌-◌}
use Rattle.vlsi_base.proofs.Ranges.{falling_turn}
use Rattle.vlsi_base.proofs.range.falling.Goals as goal

pub loop-left-preserved : goal.loop-left-preserved
loop-left-preserved c = (
  omega arith,
  falling_turn c.args.last c.loop-left.left c.loop-left.bits.items _ _ (omega arith) (c.in_ok-push.ensures.items ∙ ap (λ n. c.loop-left.bits.items ++ (n + (c.loop-left.left - 1)) ∷ []) c.from.ensures) c.loop-left.invariant.1,
)
