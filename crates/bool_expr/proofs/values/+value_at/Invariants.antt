use Rattle.std.proofs.Common.{◌≡◌, ◌≤◌, length, cond}
use Rattle.bool_expr.specs.declared.expr.Expr.{size-Expr}
use Rattle.bool_expr.specs.Expression.{val, IsOver}
use Rattle.bool_expr.specs.View.{view}
use Rattle.bool_expr.proofs.values.+value_at.Given as goal

abbrev pub decreases-value_at : goal.decreases-value_at
decreases-value_at l = goal.size-value_at l

-- the whole has the value that stands for the value of what is left
abbrev pub invariant-loop-rest : goal.invariant-loop-rest
invariant-loop-rest l =
    (size-Expr l.rest ≤ size-Expr l.initial.rest) × IsOver (view l.rest) (length l.bits) × (cond (val (view l.rest) l.bits) l.at_one l.at_zero ≡ val (view l.initial.rest) l.bits)
