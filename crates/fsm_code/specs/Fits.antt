-- States whose variables have numbers that fit, and expressions that are put behind others.
use Rattle.std.specs.Prelude.{◌≡◌, ℕ, ◌+◌, ◌<◌, ◌^◌, ◌++◌, true, List, map}
use Rattle.bool_expr.specs.declared.expr.Expr.{Expr}
use Rattle.bool_expr.specs.Expression.{Expression}
use Rattle.bool_expr.specs.Support.{among}
use Rattle.bool_expr.specs.View.{view}

-- the variables of these states, numbered from the first one on, have numbers of 32 bits
abbrev pub Fits : ℕ → List ℕ → Type 0
Fits first states = (s : ℕ) → among s states ≡ true → first + s < 2 ^ 32

-- these expressions were put behind the old ones
abbrev pub Adds : List Expr → List Expr → List Expression → Type 0
Adds old new more = map view new ≡ map view old ++ more
