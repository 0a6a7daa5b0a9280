use Rattle.std.proofs.Common.{◌≡◌, vec_len}
use Rattle.fsm_code.specs.View.{body_view}
use Rattle.fsm_merge.specs.Pieces.{with_pieces}
use Rattle.fsm_merge.proofs.pieces.with_pieces.Given as goal

abbrev pub invariant-loop-piece : goal.invariant-loop-piece
invariant-loop-piece l = with_pieces l.pieces.items (body_view l.made) ≡ with_pieces l.initial.pieces.items (body_view l.initial.made)

abbrev pub decreases-loop-piece : goal.decreases-loop-piece
decreases-loop-piece l = vec_len l.pieces
