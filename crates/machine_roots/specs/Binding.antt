-- The functions of a machine's names, while a root is asked for.
use Rattle.std.specs.Prelude.{ℕ, suc, Bool, false, List, [], ◌∷◌, ◌++◌, map, length, replicate, slice_set, if◌then◌else◌}
use Rattle.std.specs.List.{All}
use Rattle.vlsi_base.specs.Range.{falling}
use Rattle.bool_expr.specs.Expression.{bit}
use Rattle.bdd_core.specs.declared.node.NodeId.{NodeId}
use Rattle.bdd_core.specs.Truths.{Truths, constant, truths}
use Rattle.bdd_core.specs.Nodes.{raised}
use Rattle.bdd_core.specs.Diagram.{Diagram, IsNode}
use Rattle.bdd_core.specs.Asked.{denoted, asked_of}
use Rattle.machine_core.specs.Machine.{Equation}

abbrev pub AreNodes : Diagram → List NodeId → Type 0
AreNodes d nodes = All (λ a. IsNode d a) nodes

-- the truth list of variable k of n, and those of all of them, the last first
abbrev pub variable_list : ℕ → ℕ → Truths
variable_list n k = truths n (λ w. bit w k)

abbrev pub variable_lists : ℕ → List Truths
variable_lists n = map (variable_list n) (falling 0 n)

-- the lists with those of variables k, k + 1, .. at these places in turn
abbrev pub put_variables : ℕ → ℕ → List ℕ → List Truths → List Truths
put_variables n k [] lists = lists
put_variables n k (x ∷ order) lists = put_variables n (suc k) order (slice_set lists x (variable_list n k))

-- The functions of inputs and registers: one in the order is the variable with its place there, and each other one is 0.
abbrev pub held_lists : ℕ → List ℕ → ℕ → List Truths
held_lists n order held = put_variables n 0 order (replicate held (raised n (constant false)))

-- the function of the name behind those that are bound: of what its equation says, where it is met, and elsewhere 0
abbrev pub next_list : ℕ → List Bool → List Truths → Equation → Truths
next_list n met lists e = if bit met (length lists) then denoted n lists e.expr else raised n (constant false)

-- the functions of all names: each equation in turn adds that of its name
abbrev pub bound_lists : ℕ → List Bool → List Truths → List Equation → List Truths
bound_lists n met lists [] = lists
bound_lists n met lists (e ∷ rest) = bound_lists n met (lists ++ next_list n met lists e ∷ []) rest

-- what the equations ask for that are met, the last first
abbrev pub asked_by : ℕ → List Bool → List Truths → List Equation → List Truths
asked_by n met lists [] = []
asked_by n met lists (e ∷ rest) =
    asked_by n met (lists ++ next_list n met lists e ∷ []) rest ++ (if bit met (length lists) then asked_of n lists e.expr else [])
