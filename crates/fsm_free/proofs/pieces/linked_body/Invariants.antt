use Rattle.std.proofs.Common.{◌≡◌, map, length}
use Rattle.fsm_text.specs.Written.{statement_view, body_view, followed, body_of}
use Rattle.fsm_free.proofs.pieces.linked_body.Given as goal

abbrev pub invariant-loop-last : goal.invariant-loop-last
invariant-loop-last l = followed (map statement_view l.left.items) (body_view l.body) ≡ body_of (map statement_view l.fn.statements.items)

abbrev pub decreases-loop-last : goal.decreases-loop-last
decreases-loop-last l = length l.left.items
