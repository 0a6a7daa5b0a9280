-- Roots as nodes of one diagram, over inputs and registers.
use Rattle.std.specs.Prelude.{◌≡◌, ℕ, false, Bool, List, [], ◌∷◌, ◌++◌, length, None}
use Rattle.bool_expr.specs.Expression.{Expression}
use Rattle.bool_expr.specs.View.{view}
use Rattle.bdd_core.specs.Truths.{Truths, constant}
use Rattle.bdd_core.specs.Nodes.{raised}
use Rattle.bdd_core.specs.Counting.{Holds}
use Rattle.bdd_core.specs.Diagram.{IsNode, function_of, functions_of}
use Rattle.bdd_core.specs.Asked.{denoted, asked_of}
use Rattle.machine_core.specs.Machine.{Equation}
use Rattle.machine_roots.specs.declared.sharing.SharedDiagrams.{SharedDiagrams}
use Rattle.machine_roots.specs.declared.sharing.Cone.{Cone}
use Rattle.machine_roots.specs.Binding.{AreNodes, variable_lists, held_lists, bound_lists, asked_by}

-- what is asked for before any root: the variables, and the function that is 0
abbrev pub shared_lists : ℕ → List Truths
shared_lists n = variable_lists n ++ raised n (constant false) ∷ []

-- the variables of an order are bound to the inputs and registers for which they stand
pub record AreShared (order : List ℕ) (held most : ℕ) (s : SharedDiagrams) : Type 0 where
  pub vars : s.diagrams.table.vars ≡ length order
  pub budget : s.diagrams.table.budget ≡ most
  pub live : s.diagrams.refused ≡ None
  pub zero_node : IsNode s.diagrams s.zero
  pub zero_is : function_of s.diagrams s.zero ≡ raised (length order) (constant false)
  pub nodes : AreNodes s.diagrams s.bound.items
  pub functions : functions_of s.diagrams s.bound.items ≡ held_lists (length order) order held
  pub holds : Holds (shared_lists (length order)) s.diagrams.table

-- the function of an expression whose names have these functions, where an equation adds that of its name if it is met; and what is
-- asked for on the way
abbrev pub root_list : ℕ → List Bool → List Truths → List Equation → Expression → Truths
root_list n met lists equations e = denoted n (bound_lists n met lists equations) e

abbrev pub root_lists : ℕ → List Bool → List Truths → List Equation → Expression → List Truths
root_lists n met lists equations e = asked_of n (bound_lists n met lists equations) e ++ asked_by n met lists equations

-- the function of a root, and what is asked for on the way, where the names before its machine's equations have these functions
abbrev pub cone_list : ℕ → List Bool → List Truths → Cone → Truths
cone_list n met lists c = root_list n met lists c.machine.now.equations (view c.root.now)

abbrev pub cone_lists : ℕ → List Bool → List Truths → Cone → List Truths
cone_lists n met lists c = root_lists n met lists c.machine.now.equations (view c.root.now)
