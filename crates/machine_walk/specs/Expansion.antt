-- Expressions in which inner signals are replaced by their equations.
use Rattle.std.specs.Prelude.{ℕ, suc, false, List, [], ◌∷◌, ◌++◌, map, length, nat_eq, if◌then◌else◌}
use Rattle.std.specs.List.{slice_index_or}
use Rattle.vlsi_base.specs.Range.{rising}
use Rattle.bool_expr.specs.Expression.{Expression, constant, variable, inverse, pair, choice}
use Rattle.machine_core.specs.Machine.{Machine, Equation}
use Rattle.machine_core.specs.Order.{held_names}

-- the expression with another one in place of each variable
abbrev pub with_variables : (ℕ → Expression) → Expression → Expression
with_variables f (constant b) = constant b
with_variables f (variable k) = f k
with_variables f (inverse e) = inverse (with_variables f e)
with_variables f (pair g a b) = pair g (with_variables f a) (with_variables f b)
with_variables f (choice c a b) = choice (with_variables f c) (with_variables f a) (with_variables f b)

-- in place of each variable the expression that the list has at its number
abbrev pub put_in : List Expression → Expression → Expression
put_in known e = with_variables (λ k. slice_index_or known k (constant false)) e

-- each equation in turn adds its expansion
abbrev pub expanded : List Expression → List Equation → List Expression
expanded known [] = known
expanded known (e ∷ rest) = expanded (known ++ put_in known e.expr ∷ []) rest

-- how many inputs and registers a machine has: they come first among its names
abbrev pub held_count : Machine → ℕ
held_count m = length (held_names m)

-- the expansions of a machine's names, in their order: an input or register is itself
unfoldable pub expansions : Machine → List Expression
expansions m = expanded (map variable (rising 0 (held_count m))) m.equations

-- an expression over the machine's names, over its inputs and registers alone
abbrev pub expansion : Machine → Expression → Expression
expansion m e = put_in (expansions m) e

-- an expression and all its subexpressions
abbrev pub subexpressions : Expression → List Expression
subexpressions (constant b) = constant b ∷ []
subexpressions (variable k) = variable k ∷ []
subexpressions (inverse e) = inverse e ∷ subexpressions e
subexpressions (pair g a b) = pair g a b ∷ (subexpressions a ++ subexpressions b)
subexpressions (choice c a b) = choice c a b ∷ (subexpressions c ++ (subexpressions a ++ subexpressions b))

-- the first place of a number in a list, and the list's length where it isn't there
abbrev pub place_among : List ℕ → ℕ → ℕ
place_among [] k = 0
place_among (x ∷ xs) k = if nat_eq x k then 0 else suc (place_among xs k)

-- the expression over the places of its variables in an order
abbrev pub in_order : List ℕ → Expression → Expression
in_order order e = with_variables (λ k. variable (place_among order k)) e
