use Rattle.std.proofs.Common.{◌≡◌, length}
use Rattle.fsm_code.specs.View.{parts_view}
use Rattle.fsm_io.specs.Linked.{parts_before}
use Rattle.fsm_io.proofs.linked.with_parts.Given as goal

abbrev pub invariant-loop-part : goal.invariant-loop-part
invariant-loop-part l = parts_before l.left.items (parts_view l.linked) ≡ parts_before l.fn.parts.items (parts_view l.fn.last)

abbrev pub decreases-loop-part : goal.decreases-loop-part
decreases-loop-part l = length l.left.items
