use Rattle.std.proofs.Common.{◌≡◌, map, length}
use Rattle.fsm_text.specs.Written.{parts_view}
use Rattle.fsm_text.specs.Pieces.{parts_before}
use Rattle.fsm_free.specs.Pieces.{part_view}
use Rattle.fsm_free.proofs.pieces.linked_parts.Given as goal

abbrev pub invariant-loop-part : goal.invariant-loop-part
invariant-loop-part l = parts_before (map part_view l.left.items) (parts_view l.linked) ≡ parts_before (map part_view l.fn.parts.items) (parts_view l.fn.last)

abbrev pub decreases-loop-part : goal.decreases-loop-part
decreases-loop-part l = length l.left.items
