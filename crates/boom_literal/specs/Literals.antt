-- What stands for a function in a machine that is made anew.
use Rattle.std.specs.Prelude.{ℕ, List, Option, None, Some, nat_lt, if◌then◌else◌}
use Rattle.bool_expr.specs.Expression.{Expression, constant, variable, size_of}
use Rattle.bool_expr.specs.Renumbering.{renumbered}
use Rattle.boom_literal.specs.declared.literal.Literal.{Literal}
use Rattle.boom_literal.specs.declared.literal.Literal.TheVariants.{Constant, Name}

abbrev pub literal_expression : Literal → Expression
literal_expression (Constant b) = constant b
literal_expression (Name k) = variable k

-- the literal in place of an expression that weighs something; elsewhere the expression, over new numbers of the names
abbrev pub said : List ℕ → Option Literal → Expression → Expression
said numbers None e = renumbered numbers e
said numbers (Some l) e = if nat_lt 0 (size_of e) then literal_expression l else renumbered numbers e
