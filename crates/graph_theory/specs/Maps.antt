-- When a netlist maps a graph node by node.
use Rattle.std.specs.Prelude.{◌≡◌, ◌⊎◌, ◌↔◌, ℕ, ◌+◌, ◌^◌, ◌<◌, ◌≤◌, Bool, not, ◌&&◌, List, [], ◌∷◌, ◌++◌, map, length, Some}
use Rattle.vlsi_base.specs.declared.name.Name.{Name}
use Rattle.vlsi_base.specs.declared.name.Terminal.{Terminal}
use Rattle.bool_expr.specs.Expression.{Expression, val}
use Rattle.machine_core.specs.Machine.{Machine, inputs, outputs, names_of}
use Rattle.vlsi_base.specs.Member.{In}
use Rattle.cell_model.specs.Cell.{gate, flip_flop, Cell, cell_inputs, cell_outputs}
use Rattle.cell_model.specs.Library.{Library, cell_of, IsUsable}
use Rattle.net_meaning.specs.Netlist.{port, pin_of, IsTerminal}
use Rattle.vlsi_base.specs.Names.{vdd, vss}
use Rattle.net_meaning.specs.Agreement.{register_instance}
use Rattle.net_meaning.specs.Well.{gate_instance}
use Rattle.net_theory.specs.Sources.{high, low, ticking, node, IsNumber, AreHeld, Seat, Sourced, source_of, pin_sources, ComesFrom}
use Rattle.graph_theory.specs.Graph.{Node, fixed, inv, nand, Graph, graph_values, graph_roots, held_count}

-- the expression computes a node of this kind from the nodes that stand at a cell's pins
abbrev pub Computes : Node → Expression → List ℕ → Type 0
Computes (fixed b) e leaves = (leaves ≡ []) × (val e [] ≡ b)
Computes (inv a) e leaves = (leaves ≡ a ∷ []) × ((x : Bool) → val e (x ∷ []) ≡ not x)
Computes (nand a b) e leaves = (leaves ≡ a ∷ b ∷ []) × ((x y : Bool) → val e (x ∷ y ∷ []) ≡ not (x && y))

-- The expression gives the bit of node a from those of earlier nodes, its leaves. So it does where it computes the node's
-- kind from the node's sons, and where the leaves are those of a cut.
pub record IsCut (m : Machine) (g : Graph) (a : ℕ) (e : Expression) (leaves : List ℕ) : Type 0 where
  pub earlier : (x : ℕ) → In x leaves → x < a
  pub value : (i s : List Bool) → AreHeld m i s → graph_values g i s a ≡ val e (map (graph_values g i s) leaves)

-- what is true of each instance: its model is a usable cell, and its supplies are tied
pub record IsPlaced (n : Sourced) (l : Library) (p : Seat) (c : Cell) : Type 0 where
  pub found : cell_of l p.member.model ≡ Some c
  pub usable : IsUsable c
  pub on_vdd : source_of n (pin_of p.member.name vdd) ≡ high
  pub on_vss : source_of n (pin_of p.member.name vss) ≡ low
  pub shows : pin_sources n p.member.name (cell_outputs c) ≡ node p.node ∷ []

-- register number k
pub record IsRegisterSeat (n : Sourced) (l : Library) (m : Machine) (g : Graph) (k : ℕ) (p : Seat) : Type 0 where
  pub named : p.member.name ≡ register_instance k
  pub place : p.node ≡ length (inputs m) + k
  pub cell : Cell
  pub placed : IsPlaced n l p cell
  pub data_pin : Name
  pub clock_pin : Name
  pub is_register : cell.function ≡ flip_flop data_pin clock_pin
  pub loads : source_of n (pin_of p.member.name data_pin) ≡ node ((graph_roots g).load k)
  pub clocked : source_of n (pin_of p.member.name clock_pin) ≡ ticking

-- gate number k, which shows a node behind the inputs and registers
pub record IsGateSeat (n : Sourced) (l : Library) (m : Machine) (g : Graph) (k : ℕ) (p : Seat) : Type 0 where
  pub named : p.member.name ≡ gate_instance k
  pub beyond : held_count m ≤ p.node
  pub within : p.node < held_count m + length g.nodes
  pub cell : Cell
  pub placed : IsPlaced n l p cell
  pub expr : Expression
  pub is_gate : cell.function ≡ gate expr
  pub leaves : List ℕ
  pub cut : IsCut m g p.node expr leaves
  pub reads : pin_sources n p.member.name (cell_inputs cell) ≡ map node leaves

-- The netlist has the registers and then an instance for each node that it shows, in the order of the nodes. Each class
-- has one source.
pub record Maps (n : Sourced) (l : Library) (m : Machine) (g : Graph) : Type 0 where
  pub registers : List Seat
  pub gates : List Seat
  pub instances : n.netlist.instances ≡ map (λ p. p.member) (registers ++ gates)
  pub each_register : length registers ≡ length m.registers
  pub few_registers : length registers < 2 ^ 64
  pub few_gates : length gates < 2 ^ 64
  pub register_at : (k : ℕ) (p : Seat) → IsNumber registers k p → IsRegisterSeat n l m g k p
  pub gate_at : (k : ℕ) (p : Seat) → IsNumber gates k p → IsGateSeat n l m g k p
  pub rising : (j k : ℕ) (p q : Seat) → IsNumber gates j p → IsNumber gates k q → j < k → p.node < q.node
  pub ranked : (a : ℕ) → n.rank a ≡ a
  -- classes
  pub numbered : (t : Terminal) → IsTerminal n.netlist l t → n.netlist.class t < n.netlist.classes
  pub one_class : (j k : ℕ) → j < n.netlist.classes → k < n.netlist.classes → n.source j ≡ n.source k → j ≡ k
  pub origins : (k : ℕ) → k < n.netlist.classes → ComesFrom m (registers ++ gates) (n.source k)
  -- ports
  pub ports : (name : Name) → In name n.netlist.ports ↔ ((name ≡ vdd) ⊎ ((name ≡ vss) ⊎ In name (names_of m.ports)))
  pub on_vdd : source_of n (port vdd) ≡ high
  pub on_vss : source_of n (port vss) ≡ low
  pub on_clock : (name : Name) → m.clock ≡ Some name → source_of n (port name) ≡ ticking
  pub in_ports : (k : ℕ) (name : Name) → IsNumber (inputs m) k name → source_of n (port name) ≡ node k
  pub out_ports : (k : ℕ) (name : Name) → IsNumber (outputs m) k name
      → source_of n (port name) ≡ node ((graph_roots g).output k)
