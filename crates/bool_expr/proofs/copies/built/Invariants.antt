use Rattle.std.proofs.Common.{◌≡◌, vec_len}
use Rattle.bool_expr.specs.View.{view}
use Rattle.bool_expr.specs.Steps.{with_steps}
use Rattle.bool_expr.proofs.copies.built.Given as goal

abbrev pub invariant-loop-step : goal.invariant-loop-step
invariant-loop-step l =
    with_steps l.steps.items (view l.made) ≡ with_steps l.initial.steps.items (view l.initial.made)

abbrev pub decreases-loop-step : goal.decreases-loop-step
decreases-loop-step l = vec_len l.steps
