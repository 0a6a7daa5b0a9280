-- Marks of the names that depend at once on an input, equation by equation.
use Rattle.std.specs.Prelude.{Bool, false, List, [], ◌∷◌, ◌++◌, map}
use Rattle.std.specs.List.{list_any}
use Rattle.vlsi_base.specs.declared.name.Name.{Name}
use Rattle.bool_expr.specs.Expression.{Expression, variables, bit}
use Rattle.machine_core.specs.Machine.{Machine, Equation, inputs}
use Rattle.machine_core.specs.Named.{is_same_name}

-- a variable of the expression is marked
abbrev pub reads_mark : List Bool → Expression → Bool
reads_mark marks e = list_any (bit marks) (variables e)

-- at first the input alone is marked, among inputs and registers
abbrev pub starts : Machine → Name → List Bool
starts m input = map (λ name. is_same_name name input) (inputs m) ++ map (λ r. false) m.registers

-- each equation in turn adds its mark
abbrev pub marked : List Bool → List Equation → List Bool
marked marks [] = marks
marked marks (e ∷ rest) = marked (marks ++ reads_mark marks e.expr ∷ []) rest
