-- What is asked of the diagrams of a root, and what they are then.
use Rattle.std.specs.Prelude.{◌≡◌, ℕ, ◌<◌, false, List, ◌++◌, length, None, Result, IfErr, OnOk}
use Rattle.std.specs.List.{All}
use Rattle.bool_expr.specs.Expression.{Expression}
use Rattle.bdd_core.specs.declared.node.BddError.{BddError}
use Rattle.bdd_core.specs.declared.node.BddError.TheVariants.{Budget}
use Rattle.bdd_core.specs.Truths.{Truths, constant, IsOver}
use Rattle.bdd_core.specs.Nodes.{raised}
use Rattle.bdd_core.specs.Counting.{Holds}
use Rattle.bdd_core.specs.Diagram.{Diagram, IsNode, function_of, Keeps}
use Rattle.machine_core.specs.Machine.{Machine}
use Rattle.machine_roots.specs.declared.diagram.RootDiagram.{RootDiagram}
use Rattle.machine_walk.specs.Expansion.{held_count}
use Rattle.machine_roots.specs.Roots.{list_of, lists_of}
use Rattle.machine_walk.specs.Walk.{order_of}

-- several questions that were answered, or the first refusal among them
pub record HaveAsked {A : Type 0} (old new : Diagram) (asked : List Truths) (result : Result A BddError) : Type 0 where
  pub vars : new.table.vars ≡ old.table.vars
  pub budget : new.table.budget ≡ old.table.budget
  pub keeps : Keeps old new
  pub live : OnOk result (new.refused ≡ None)
  pub holds : OnOk result ((earlier : List Truths) → Holds earlier old.table → Holds (asked ++ earlier) new.table)
  pub over : IfErr result (λ e. e ≡ Budget → (earlier : List Truths) → Holds earlier old.table → IsOver (asked ++ earlier) old.table.budget)

-- The diagram of an expression over a machine's names: over the inputs and registers that its expansion reads, as the walk meets
-- them, the nodes of all subexpressions and no others; `root` is the expression's.
pub record IsRootDiagram (m : Machine) (e : Expression) (budget : ℕ) (d : RootDiagram) : Type 0 where
  pub order : d.order.items ≡ order_of m e
  pub vars : d.diagrams.table.vars ≡ length d.order.items
  pub root_node : IsNode d.diagrams d.root
  pub root_is : function_of d.diagrams d.root ≡ list_of m e
  pub zero_node : IsNode d.diagrams d.zero
  pub zero_is : function_of d.diagrams d.zero ≡ raised d.diagrams.table.vars (constant false)
  pub holds : Holds (lists_of m e) d.diagrams.table
  pub within : IsOver (lists_of m e) budget → ⊥
  -- the inputs and registers stand before the first equation
  pub held : All (λ k. k < held_count m) d.order.items
