-- What an expression asks for.
use Rattle.std.specs.Prelude.{ℕ, ◌++◌, ◌∷◌, [], List, Result}
use Rattle.bool_expr.specs.declared.expr.Gate.TheVariants.{Nand}
use Rattle.bool_expr.specs.Expression.{Expression, constant, variable, inverse, pair, choice}
use Rattle.bdd_core.specs.declared.node.NodeId.{NodeId}
use Rattle.bdd_core.specs.declared.node.BddError.{BddError}
use Rattle.bdd_core.specs.Truths.{Truths, constant as even}
use Rattle.bdd_core.specs.Nodes.{raised, place}
use Rattle.bdd_core.specs.Diagram.{Diagram, gate_of, choice_of, functions_of, IsAnswer}

-- the truth list of an expression, where variable k has the k-th of these
abbrev pub denoted : ℕ → List Truths → Expression → Truths
denoted vars bound (constant b) = raised vars (even b)
denoted vars bound (variable k) = place bound k
denoted vars bound (inverse e) = gate_of Nand (denoted vars bound e) (denoted vars bound e)
denoted vars bound (pair g a b) = gate_of g (denoted vars bound a) (denoted vars bound b)
denoted vars bound (choice c a b) = choice_of (denoted vars bound c) (denoted vars bound a) (denoted vars bound b)

-- those of the expression and of all its subexpressions
abbrev pub asked_of : ℕ → List Truths → Expression → List Truths
asked_of vars bound (constant b) = denoted vars bound (constant b) ∷ []
asked_of vars bound (variable k) = denoted vars bound (variable k) ∷ []
asked_of vars bound (inverse e) = denoted vars bound (inverse e) ∷ asked_of vars bound e
asked_of vars bound (pair g a b) = denoted vars bound (pair g a b) ∷ (asked_of vars bound b ++ asked_of vars bound a)
asked_of vars bound (choice c a b) =
    denoted vars bound (choice c a b) ∷ (asked_of vars bound b ++ (asked_of vars bound a ++ asked_of vars bound c))

-- the answer for an expression whose variables have the functions of these nodes
abbrev pub IsAnswerOf : Diagram → Diagram → List NodeId → Expression → Result NodeId BddError → Type 0
IsAnswerOf old new bound e result =
    IsAnswer old new (asked_of old.table.vars (functions_of old bound) e)
    (denoted old.table.vars (functions_of old bound) e) result
