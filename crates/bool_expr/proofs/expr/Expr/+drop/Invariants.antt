use Rattle.std.proofs.Common.{◌≤◌}
use Rattle.bool_expr.specs.declared.expr.Expr.{size-Expr}
use Rattle.bool_expr.proofs.expr.Expr.+drop.Given as goal

abbrev pub invariant-loop-self : goal.invariant-loop-self
invariant-loop-self l = size-Expr l.self ≤ size-Expr l.initial.self
