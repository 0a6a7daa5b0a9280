use Rattle.std.proofs.Common.{◌≡◌, map, length}
use Rattle.fsm_text.specs.Written.{branches_view, branched}
use Rattle.fsm_free.specs.Pieces.{branch_view}
use Rattle.fsm_free.proofs.pieces.linked_branches.Given as goal

abbrev pub invariant-loop-branch : goal.invariant-loop-branch
invariant-loop-branch l = branched (map branch_view l.left.items) (branches_view l.linked) ≡ branched (map branch_view l.fn.branches.items) (branches_view l.fn.last)

abbrev pub decreases-loop-branch : goal.decreases-loop-branch
decreases-loop-branch l = length l.left.items
