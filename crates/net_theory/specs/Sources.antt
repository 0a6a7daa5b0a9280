-- What gives each class of a netlist its bit.
use Rattle.std.specs.Prelude.{◌≡◌, ◌⊎◌, ◌↔◌, ℕ, ◌+◌, ◌<◌, ◌≤◌, Bool, List, [], ◌∷◌, map, length, Some}
use Prim.Native.Nat.{zero, suc}
use Rattle.vlsi_base.specs.declared.name.Name.{Name}
use Rattle.vlsi_base.specs.declared.name.Terminal.{Terminal}
use Rattle.bool_expr.specs.Expression.{Expression, val}
use Rattle.machine_core.specs.Machine.{Machine, inputs, outputs, names_of}
use Rattle.vlsi_base.specs.Member.{In}
use Rattle.cell_model.specs.Cell.{Function, gate, flip_flop, other, opaque, Cell, cell_inputs, cell_outputs}
use Rattle.cell_model.specs.Library.{Library, cell_of, IsUsable}
use Rattle.net_meaning.specs.Netlist.{Member, AbstractNetlist, port, pin_of, IsTerminal}
use Rattle.vlsi_base.specs.Names.{vdd, vss}
use Rattle.net_meaning.specs.Agreement.{register_instance}
use Rattle.net_meaning.specs.Well.{IsGateName}

-- a supply, the clock, or a node: nodes are the inputs, then the registers, then whatever gates compute
pub data Source : Type 0 where
  high : Source
  low : Source
  ticking : Source
  node : ℕ → Source

-- x is number k of the list
abbrev pub IsNumber : {A : Type 0} → List A → ℕ → A → Type 0
IsNumber {A} [] k x = ⊥
IsNumber {A} (y ∷ ys) zero x = x ≡ y
IsNumber {A} (y ∷ ys) (suc k) x = IsNumber ys k x

-- the bit of each node, from an input vector and the contents of the registers
abbrev pub Values : Type 0
Values = List Bool → List Bool → ℕ → Bool

-- a bit for each input and each register
pub record AreHeld (m : Machine) (i s : List Bool) : Type 0 where
  pub for_inputs : length i ≡ length (inputs m)
  pub for_registers : length s ≡ length m.registers

-- an instance, and the node that its output shows
pub record Seat : Type 0 where
  pub member : Member
  pub node : ℕ

-- the nodes that a netlist must show: what outputs show, and what registers load
pub record Roots : Type 0 where
  pub output : ℕ → ℕ
  pub load : ℕ → ℕ

-- a netlist whose classes have sources, in an order of the nodes
pub record Sourced : Type 0 where
  pub netlist : AbstractNetlist
  pub source : ℕ → Source
  pub rank : ℕ → ℕ

-- the source of a terminal's class, and those of an instance's pins
abbrev pub source_of : Sourced → Terminal → Source
source_of n t = n.source (n.netlist.class t)

abbrev pub pin_sources : Sourced → List ℕ → List Name → List Source
pin_sources n owner pins = map (λ p. source_of n (pin_of owner p)) pins

-- a gate computes its node from nodes of lower rank
pub record IsGateOf (n : Sourced) (m : Machine) (f : Values) (p : Seat) (c : Cell) (e : Expression) : Type 0 where
  pub beyond : length (inputs m) + length m.registers ≤ p.node
  pub named : IsGateName p.member c
  pub leaves : List ℕ
  pub reads : pin_sources n p.member.name (cell_inputs c) ≡ map node leaves
  pub shows : pin_sources n p.member.name (cell_outputs c) ≡ node p.node ∷ []
  pub value : (i s : List Bool) → AreHeld m i s → f i s p.node ≡ val e (map (f i s) leaves)
  pub earlier : (x : ℕ) → In x leaves → n.rank x < n.rank p.node

-- a flip-flop is a register: it shows the register's node, and loads the root
pub record IsRegisterOf (n : Sourced) (m : Machine) (r : Roots) (p : Seat) (c : Cell) (data_pin clock_pin : Name) : Type 0 where
  pub number : ℕ
  pub within : number < length m.registers
  pub named : p.member.name ≡ register_instance number
  pub place : p.node ≡ length (inputs m) + number
  pub shows : pin_sources n p.member.name (cell_outputs c) ≡ node p.node ∷ []
  pub loads : source_of n (pin_of p.member.name data_pin) ≡ node (r.load number)
  pub clocked : source_of n (pin_of p.member.name clock_pin) ≡ ticking

-- what an instance is to the netlist, by what its cell computes
abbrev pub Plays : Sourced → Machine → Values → Roots → Seat → Cell → Function → Type 0
Plays n m f r p c (gate e) = IsGateOf n m f p c e
Plays n m f r p c (flip_flop data_pin clock_pin) = IsRegisterOf n m r p c data_pin clock_pin
Plays n m f r p c (other machine) = ⊥
Plays n m f r p c opaque = ⊥

-- an instance has a usable cell, whose supply pins are in the classes of the supplies
pub record IsSeated (n : Sourced) (l : Library) (m : Machine) (f : Values) (r : Roots) (p : Seat) : Type 0 where
  pub cell : Cell
  pub found : cell_of l p.member.model ≡ Some cell
  pub usable : IsUsable cell
  pub on_vdd : source_of n (pin_of p.member.name vdd) ≡ high
  pub on_vss : source_of n (pin_of p.member.name vss) ≡ low
  pub plays : Plays n m f r p cell cell.function

-- where a source comes from: a clock there is, an input, or an instance
abbrev pub ComesFrom : Machine → List Seat → Source → Type 0
ComesFrom m seats high = Unit {0}
ComesFrom m seats low = Unit {0}
ComesFrom m seats ticking = (name : Name) × (m.clock ≡ Some name)
ComesFrom m seats (node a) = (a < length (inputs m)) ⊎ ((p : Seat) × In p seats × (p.node ≡ a))

-- The netlist shows the nodes: each class has one source, each node at most one instance, and each instance computes its
-- node from nodes of lower rank.
pub record Shows (n : Sourced) (l : Library) (m : Machine) (f : Values) (r : Roots) : Type 0 where
  pub seats : List Seat
  pub instances : n.netlist.instances ≡ map (λ p. p.member) seats
  pub seated : (p : Seat) → In p seats → IsSeated n l m f r p
  pub one_node : (p q : Seat) → In p seats → In q seats → p.node ≡ q.node → p ≡ q
  pub one_name : (p q : Seat) → In p seats → In q seats → p.member.name ≡ q.member.name → p ≡ q
  pub all_registers : (k : ℕ) → k < length m.registers → (p : Seat) × In p seats × (p.node ≡ length (inputs m) + k)
  -- classes
  pub numbered : (t : Terminal) → IsTerminal n.netlist l t → n.netlist.class t < n.netlist.classes
  pub one_class : (j k : ℕ) → j < n.netlist.classes → k < n.netlist.classes → n.source j ≡ n.source k → j ≡ k
  pub origins : (k : ℕ) → k < n.netlist.classes → ComesFrom m seats (n.source k)
  -- ports
  pub ports : (name : Name) → In name n.netlist.ports ↔ ((name ≡ vdd) ⊎ ((name ≡ vss) ⊎ In name (names_of m.ports)))
  pub on_vdd : source_of n (port vdd) ≡ high
  pub on_vss : source_of n (port vss) ≡ low
  pub on_clock : (name : Name) → m.clock ≡ Some name → source_of n (port name) ≡ ticking
  pub in_ports : (k : ℕ) (name : Name) → IsNumber (inputs m) k name → source_of n (port name) ≡ node k
  pub out_ports : (k : ℕ) (name : Name) → IsNumber (outputs m) k name → source_of n (port name) ≡ node (r.output k)
  -- no two outputs show one node, and none shows an input
  pub no_input : (k : ℕ) → k < length (outputs m) → length (inputs m) ≤ r.output k
  pub different : (j k : ℕ) → j < length (outputs m) → k < length (outputs m) → r.output j ≡ r.output k → j ≡ k
