use Rattle.std.proofs.Common.{◌≡◌, ◌++◌}
use Rattle.bool_expr.specs.Expression.{variables}
use Rattle.bool_expr.specs.View.{view}
use Rattle.bool_expr.specs.Support.{meetings_after, first_meetings, Knows}
use Rattle.bool_expr.proofs.Waiting.{still_to_read, weight_of}
use Rattle.bool_expr.proofs.variables.support.Given as goal

-- those that were met, and those that are still to be met behind them, are all
abbrev pub invariant-loop-next : goal.invariant-loop-next
invariant-loop-next l =
    Knows l.met l.vars.items × (l.vars.items ++ meetings_after l.vars.items (still_to_read l.waiting.items) ≡ first_meetings (variables (view l.e)))

abbrev pub decreases-loop-next : goal.decreases-loop-next
decreases-loop-next l = weight_of l.waiting.items
