-- The way down into an expression, by operators that lack the operand at which it goes on.
use Rattle.std.specs.Prelude.{List, [], ◌∷◌}
use Rattle.bool_expr.specs.declared.copies.Step.{Step}
use Rattle.bool_expr.specs.declared.copies.Step.TheVariants as step
use Rattle.bool_expr.specs.Expression.{Expression, inverse, pair, choice}
use Rattle.bool_expr.specs.View.{view}

-- an operator with the operand that it lacks
abbrev pub with_step : Step → Expression → Expression
with_step step.Not e = inverse e
with_step (step.Pair g b) e = pair g e (view b.value)
with_step (step.Choice c a) e = choice (view c.value) (view a.value) e

-- operators one inside the other, the outermost first
abbrev pub with_steps : List Step → Expression → Expression
with_steps [] e = e
with_steps (s ∷ ss) e = with_step s (with_steps ss e)
