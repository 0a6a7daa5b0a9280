use Rattle.std.proofs.Common.{◌≡◌, map, length}
use Rattle.fsm_text.specs.Written.{statement_view, body_view, followed, body_of}
use Rattle.fsm_text.proofs.pieces.linked_body.Given as goal

abbrev pub invariant-loop-left : goal.invariant-loop-left
invariant-loop-left l = followed (map statement_view l.left.items) (body_view l.body) ≡ body_of (map statement_view l.fn.statements.items)

abbrev pub decreases-loop-left : goal.decreases-loop-left
decreases-loop-left l = length l.left.items
