-- What is true of each netlist that maps the graph of a machine.
use Rattle.std.specs.Prelude.{ℕ, ◌+◌, List}
use Rattle.bool_expr.specs.Expression.{Expression}
use Rattle.machine_core.specs.Machine.{Machine}
use Rattle.machine_core.specs.Checked.{IsChecked}
use Rattle.cell_model.specs.Library.{Library}
use Rattle.net_meaning.specs.Well.{IsWell}
use Rattle.net_meaning.specs.Agreement.{Agrees}
use Rattle.net_meaning.specs.Order.{IsInNetlistOrder, IsLean}
use Rattle.net_theory.specs.Sources.{IsNumber, Sourced, Shows}
use Rattle.net_theory.specs.Meaning.{Means}
use Rattle.graph_theory.specs.Graph.{Node, Graph, held_count, IsGraphOf, IsApart, IsSmall, graph_values, graph_roots}
use Rattle.graph_theory.specs.Maps.{Computes, IsCut, Maps}

-- an expression that computes a node's kind from its sons gives its bit
abbrev pub PlainIsCut : Type 0
PlainIsCut = (m : Machine) (g : Graph) (j : ℕ) (kind : Node) (e : Expression) (leaves : List ℕ)
    → IsGraphOf m g → IsNumber g.nodes j kind → Computes kind e leaves
    → IsCut m g (held_count m + j) e leaves

-- a netlist that maps a graph shows its nodes, and those mean the machine
abbrev pub MappedShows : Type 0
MappedShows = (n : Sourced) (l : Library) (m : Machine) (g : Graph) → IsChecked m → IsGraphOf m g → IsApart m g → Maps n l m g
    → Shows n l m (graph_values g) (graph_roots g) × Means m (graph_values g) (graph_roots g)

-- it is well formed for the machine, and behaves as it does
abbrev pub MappedIsRight : Type 0
MappedIsRight = (n : Sourced) (l : Library) (m : Machine) (g : Graph) → IsChecked m → IsGraphOf m g → IsApart m g → Maps n l m g
    → IsWell n.netlist l m × Agrees n.netlist l m

-- its instances stand in the order of a netlist
abbrev pub MappedIsInOrder : Type 0
MappedIsInOrder = (n : Sourced) (l : Library) (m : Machine) (g : Graph) → Maps n l m g → IsInNetlistOrder n.netlist l m 0

-- and it is lean
abbrev pub MappedIsLean : Type 0
MappedIsLean = (n : Sourced) (l : Library) (m : Machine) (g : Graph) → IsSmall m g → Maps n l m g → IsLean n.netlist m
