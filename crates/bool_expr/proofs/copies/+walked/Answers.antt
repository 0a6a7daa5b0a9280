use Rattle.std.proofs.Common.{rules}
use Rattle.bool_expr.specs.declared.expr.Expr.TheViews.{the_lemmas}
use Rattle.bool_expr.proofs.Steps.{with_steps_more}
use Rattle.bool_expr.proofs.copies.+walked.Goals as goal

pub steps-loop-rest-preserved-in-Not : goal.steps-loop-rest-preserved-in-Not
steps-loop-rest-preserved-in-Not t c =
    (search (rules, the_lemmas), with_steps_more _ _ _ _ _ _ c.in_ok-push-in-Not.ensures.items (search rules) c.loop-rest.invariant.1)

pub steps-loop-rest-preserved-in-Pair : goal.steps-loop-rest-preserved-in-Pair
steps-loop-rest-preserved-in-Pair t c =
    (search (rules, the_lemmas), with_steps_more _ _ _ _ _ _ c.in_ok-push-in-Pair.ensures.items (search rules) c.loop-rest.invariant.1)

pub steps-loop-rest-preserved : goal.steps-loop-rest-preserved
steps-loop-rest-preserved t c =
    (search (rules, the_lemmas), with_steps_more _ _ _ _ _ _ c.in_ok-push-in-Choice.ensures.items (search rules) c.loop-rest.invariant.1)
