use Rattle.std.proofs.Common.{◌≡◌, ◌≤◌, ◌+◌, ◌*◌}
use Rattle.bool_expr.specs.declared.expr.Expr.{size-Expr}
use Rattle.bool_expr.specs.View.{view}
use Rattle.bool_expr.specs.Steps.{with_steps}
use Rattle.bool_expr.specs.Renumbering.{renumbered_within}
use Rattle.bool_expr.proofs.copies.+walked.Given as goal

-- the two go by the depth, `walked` above `steps`
abbrev pub decreases-walked : goal.decreases-walked
decreases-walked l = 2 * size-Expr l.e.now + 1

abbrev pub decreases-steps : goal.decreases-steps
decreases-steps l = 2 * size-Expr l.e.now

abbrev pub invariant-steps-loop-rest : goal.invariant-steps-loop-rest
invariant-steps-loop-rest l =
    (size-Expr l.rest ≤ size-Expr l.initial.rest) × (with_steps l.steps.items (renumbered_within l.numbers (view l.rest)) ≡ renumbered_within l.numbers (view l.initial.rest))
