use Rattle.std.proofs.Common.{◌≡◌, vec_len}
use Rattle.fsm_code.specs.View.{parts_view}
use Rattle.fsm_merge.specs.Pieces.{with_arms}
use Rattle.fsm_merge.proofs.pieces.with_arms.Given as goal

abbrev pub invariant-loop-arm : goal.invariant-loop-arm
invariant-loop-arm l = with_arms l.arms.items (parts_view l.made) ≡ with_arms l.initial.arms.items (parts_view l.initial.made)

abbrev pub decreases-loop-arm : goal.decreases-loop-arm
decreases-loop-arm l = vec_len l.arms
