-- What an `Expr` is, without where its parts lie in memory.
use Rattle.bool_expr.specs.declared.expr.Expr.{Expr, Const, Var, Not', Pair', Choice'}
use Rattle.bool_expr.specs.Expression.{Expression, constant, variable, inverse, pair, choice}

abbrev pub view : Expr → Expression
view (Const b) = constant b
view (Var k) = variable k
view (Not' _ e) = inverse (view e)
view (Pair' g _ a _ b) = pair g (view a) (view b)
view (Choice' _ c _ a _ b) = choice (view c) (view a) (view b)
