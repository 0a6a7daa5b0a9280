use Rattle.std.proofs.Common.{◌≤◌}
use Rattle.bool_expr.specs.declared.expr.Expr.{size-Expr}
use Rattle.bool_expr.specs.Expression.{IsOver}
use Rattle.bool_expr.specs.View.{view}
use Rattle.boom_check.proofs.reading.+is_over.Given as goal

abbrev pub decreases-is_over : goal.decreases-is_over
decreases-is_over l = size-Expr l.e.now

-- where what is left reads only names below, so does the whole
abbrev pub invariant-loop-rest : goal.invariant-loop-rest
invariant-loop-rest l = (size-Expr l.rest ≤ size-Expr l.initial.rest) × (IsOver (view l.rest) l.n → IsOver (view l.initial.rest) l.n)
