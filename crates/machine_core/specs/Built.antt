-- The valuation of an ordered machine, computed equation by equation.
use Rattle.std.specs.Prelude.{◌≡◌, Bool, List, [], ◌∷◌, ◌++◌, length}
use Rattle.bool_expr.specs.Expression.{val}
use Rattle.machine_core.specs.Machine.{Machine, Equation, inputs}
use Rattle.machine_core.specs.Cycles.{Settles}
use Rattle.machine_core.specs.Order.{IsOrdered}

-- each equation in turn adds its value
abbrev pub built : List Bool → List Equation → List Bool
built w [] = w
built w (e ∷ rest) = built (w ++ val e.expr w ∷ []) rest

-- the one valuation of an ordered machine is what is built from the input vector and the contents of the registers
abbrev pub BuiltSettles : Type 0
BuiltSettles =
    (m : Machine) (s i : List Bool) → IsOrdered m → length s ≡ length m.registers → length i ≡ length (inputs m)
    → Settles m s i (built (i ++ s) m.equations)
