use Rattle.std.proofs.Common.{◌≡◌, ◌-◌, ◌+◌, ◌^◌, ◌<◌, ◌≤◌, min}
use Rattle.bool_expr.specs.declared.expr.Expr.{size-Expr}
use Rattle.bool_expr.specs.Expression.{size_of}
use Rattle.bool_expr.specs.View.{view}
use Rattle.bool_expr.proofs.values.+size.Given as goal

abbrev pub decreases-size : goal.decreases-size
decreases-size l = goal.size-size l

-- the sum so far and what is left make the whole
abbrev pub invariant-loop-rest : goal.invariant-loop-rest
invariant-loop-rest l =
    (size-Expr l.rest ≤ size-Expr l.initial.rest) × (l.sum < 2 ^ 64) × (min (l.sum + size_of (view l.rest)) (2 ^ 64 - 1) ≡ min (size_of (view l.initial.rest)) (2 ^ 64 - 1))
