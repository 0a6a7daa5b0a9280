-- When a netlist is well formed for a machine.
use Rattle.std.specs.Prelude.{◌≡◌, ◌⊎◌, ◌↔◌, ℕ, ◌<◌, List, ◌++◌, length, None, Some, codes}
use Rattle.std.specs.Fmt.{decimal}
use Rattle.vlsi_base.specs.declared.name.Name.{Name}
use Rattle.vlsi_base.specs.declared.name.Terminal.{Terminal}
use Rattle.machine_core.specs.Machine.{Machine, inputs, names_of}
use Rattle.vlsi_base.specs.Member.{In}
use Rattle.cell_model.specs.Cell.{Function, gate, flip_flop, other, opaque, Cell, cell_inputs, cell_outputs}
use Rattle.cell_model.specs.Library.{Library, cell_of, IsUsable}
use Rattle.net_meaning.specs.Netlist.{Member, AbstractNetlist, port, pin_of, IsTerminal}
use Rattle.vlsi_base.specs.Names.{vdd, vss}
use Rattle.net_meaning.specs.Agreement.{register_instance}

-- the instances of gates, and those of buffers
abbrev pub gate_instance : ℕ → List ℕ
gate_instance k = codes "g" ++ decimal k

abbrev pub buffer_instance : ℕ → List ℕ
buffer_instance k = codes "b" ++ decimal k

abbrev pub IsFlipFlop : Function → Type 0
IsFlipFlop (gate e) = ⊥
IsFlipFlop (flip_flop data_pin clock_pin) = Unit {0}
IsFlipFlop (other machine) = ⊥
IsFlipFlop opaque = ⊥

-- the netlist has the instance, of this cell
pub record Has (n : AbstractNetlist) (l : Library) (i : Member) (c : Cell) : Type 0 where
  pub listed : In i n.instances
  pub found : cell_of l i.model ≡ Some c

-- a flip-flop's clock pin
pub data IsClockPin (n : AbstractNetlist) (l : Library) : Terminal → Type 0 where
  a_clock_pin : (i : Member) (c : Cell) (data_pin clock_pin : Name) → Has n l i c → c.function ≡ flip_flop data_pin clock_pin
      → IsClockPin n l (pin_of i.name clock_pin)

-- what gives a class its bit: an input port, or the output pin of an instance
pub data IsDriver (n : AbstractNetlist) (l : Library) (m : Machine) : Terminal → Type 0 where
  an_input : {name : Name} → In name (inputs m) → IsDriver n l m (port name)
  an_output : {name : Name} (i : Member) (c : Cell) → Has n l i c → In name (cell_outputs c) → IsDriver n l m (pin_of i.name name)

-- the terminal's class has exactly one driver
pub record OneDriver (n : AbstractNetlist) (l : Library) (m : Machine) (t : Terminal) : Type 0 where
  pub driver : Terminal
  pub drives : IsDriver n l m driver
  pub joined : n.class driver ≡ n.class t
  pub alone : (another : Terminal) → IsDriver n l m another → n.class another ≡ n.class t → another ≡ driver

-- the terminal's class is that of a supply or of the clock
pub data IsSpecial (n : AbstractNetlist) (m : Machine) (t : Terminal) : Type 0 where
  of_vdd : n.class t ≡ n.class (port vdd) → IsSpecial n m t
  of_vss : n.class t ≡ n.class (port vss) → IsSpecial n m t
  of_clock : (name : Name) → m.clock ≡ Some name → n.class t ≡ n.class (port name) → IsSpecial n m t

-- a gate has the name g or b and a number, and one that is named b has one input
pub data IsGateName (i : Member) (c : Cell) : Type 0 where
  named_g : (k : ℕ) → i.name ≡ gate_instance k → IsGateName i c
  named_b : (k : ℕ) → i.name ≡ buffer_instance k → length (cell_inputs c) ≡ 1 → IsGateName i c

pub record IsWell (n : AbstractNetlist) (l : Library) (m : Machine) : Type 0 where
  -- each instance's model is a usable cell
  pub models : (i : Member) → In i n.instances → (c : Cell) × (cell_of l i.model ≡ Some c) × IsUsable c
  -- the ports are the machine's with vdd and vss, and no two have one class
  pub ports : (name : Name) → In name n.ports ↔ ((name ≡ vdd) ⊎ ((name ≡ vss) ⊎ In name (names_of m.ports)))
  pub apart : (a b : Name) → In a n.ports → In b n.ports → n.class (port a) ≡ n.class (port b) → a ≡ b
  -- the class of a supply holds its port and each instance's pin of its name, and nothing else
  pub high : (t : Terminal) → IsTerminal n l t → (n.class t ≡ n.class (port vdd)) ↔ (t.pin ≡ vdd)
  pub low : (t : Terminal) → IsTerminal n l t → (n.class t ≡ n.class (port vss)) ↔ (t.pin ≡ vss)
  -- the clock's class holds its port and all clock pins of registers, and nothing else; without a clock there is no register
  pub clock : (name : Name) → m.clock ≡ Some name → (t : Terminal) → IsTerminal n l t
      → (n.class t ≡ n.class (port name)) ↔ ((t ≡ port name) ⊎ IsClockPin n l t)
  pub unclocked : m.clock ≡ None → (i : Member) (c : Cell) → Has n l i c → IsFlipFlop c.function → ⊥
  -- every other class has exactly one driver
  pub drivers : (t : Terminal) → IsTerminal n l t → (IsSpecial n m t → ⊥) → OneDriver n l m t
  -- the registers are q0, q1 and so on, as many as the machine has; each is there
  pub registers : (i : Member) (c : Cell) → Has n l i c → IsFlipFlop c.function
      → (k : ℕ) × (k < length m.registers) × (i.name ≡ register_instance k)
  pub all_registers : (k : ℕ) → k < length m.registers
      → (i : Member) × (c : Cell) × Has n l i c × IsFlipFlop c.function × (i.name ≡ register_instance k)
  pub gates : (i : Member) (c : Cell) → Has n l i c → (IsFlipFlop c.function → ⊥) → IsGateName i c
