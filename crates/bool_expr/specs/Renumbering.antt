-- Expressions over other variables.
use Rattle.std.specs.Prelude.{ℕ, List, slice_index}
use Rattle.std.specs.List.{slice_index_or}
use Rattle.bool_expr.specs.Expression.{Expression, constant, variable, inverse, pair, choice}

-- in place of each variable the number that the list has at its place
abbrev pub renumbered : List ℕ → Expression → Expression
renumbered numbers (constant b) = constant b
renumbered numbers (variable k) = variable (slice_index numbers k)
renumbered numbers (inverse e) = inverse (renumbered numbers e)
renumbered numbers (pair g a b) = pair g (renumbered numbers a) (renumbered numbers b)
renumbered numbers (choice c a b) = choice (renumbered numbers c) (renumbered numbers a) (renumbered numbers b)

-- the same, where a variable past the end of the list stays
abbrev pub renumbered_within : List ℕ → Expression → Expression
renumbered_within numbers (constant b) = constant b
renumbered_within numbers (variable k) = variable (slice_index_or numbers k k)
renumbered_within numbers (inverse e) = inverse (renumbered_within numbers e)
renumbered_within numbers (pair g a b) = pair g (renumbered_within numbers a) (renumbered_within numbers b)
renumbered_within numbers (choice c a b) =
    choice (renumbered_within numbers c) (renumbered_within numbers a) (renumbered_within numbers b)
