use Rattle.std.proofs.Common.{◌≡◌, length}
use Rattle.fsm_code.specs.View.{branches_view}
use Rattle.fsm_io.specs.Linked.{branches_before}
use Rattle.fsm_io.proofs.linked.with_branches.Given as goal

abbrev pub invariant-loop-branch : goal.invariant-loop-branch
invariant-loop-branch l = branches_before l.left.items (branches_view l.linked) ≡ branches_before l.fn.branches.items (branches_view l.fn.last)

abbrev pub decreases-loop-branch : goal.decreases-loop-branch
decreases-loop-branch l = length l.left.items
