-- The pins that a net is read by.
use Rattle.std.specs.Prelude.{ℕ, Bool, true, false, ◌&&◌, ◌||◌, List, [], ◌∷◌, map, filter, Option, None, Some, nat_eq, if◌then◌else◌}
use Rattle.std.specs.List.{flat_map}
use Rattle.vlsi_base.specs.declared.name.Port.{Port}
use Rattle.vlsi_base.specs.declared.name.Terminal.{Terminal}
use Rattle.vlsi_base.specs.Names.{vdd, vss}
use Rattle.machine_core.specs.Named.{is_same_text, is_same_name}
use Rattle.cell_model.specs.Library.{Library, cell_of}
use Rattle.net_core.specs.Netlist.{Instance, Netlist as InMemory, port, pin_of, terminals}
use Rattle.loon_loads.specs.Sinks.{is_sink_of}

-- a netlist whose classes are told by a function of terminals; they are below `count`
pub record Wired : Type 0 where
  pub ports : List Port
  pub instances : List Instance
  pub class : Terminal → ℕ
  pub count : ℕ

-- the pins of an instance that are sinks where they are in nets, by its cell
abbrev pub instance_sinks : Library → Instance → List Terminal
instance_sinks l i = map (pin_of i.name) (filter (is_sink_of (cell_of l i.model)) i.pins)

-- such pins of all instances: instances in order, pins by name
abbrev pub all_sinks : Library → List Instance → List Terminal
all_sinks l instances = flat_map (instance_sinks l) instances

-- the class of a supply, which is no net
abbrev pub is_supply_class : Wired → ℕ → Bool
is_supply_class n class = nat_eq (n.class (port vdd)) class || nat_eq (n.class (port vss)) class

-- the sinks of a class, in that order; that of a supply has none
abbrev pub sinks : Library → Wired → ℕ → List Terminal
sinks l n class = if is_supply_class n class then [] else filter (λ t. nat_eq (n.class t) class) (all_sinks l n.instances)

-- ---- a netlist in memory

abbrev pub is_same_owner : Option (List ℕ) → Option (List ℕ) → Bool
is_same_owner None None = true
is_same_owner (Some a) (Some b) = is_same_text a b
is_same_owner None (Some _) = false
is_same_owner (Some _) None = false

abbrev pub is_same_terminal : Terminal → Terminal → Bool
is_same_terminal a b = is_same_owner a.instance b.instance && is_same_name a.pin b.pin

-- the number that stands beside a terminal; 0 where it isn't there
abbrev pub class_among : List Terminal → List ℕ → Terminal → ℕ
class_among [] classes t = 0
class_among (u ∷ us) [] t = 0
class_among (u ∷ us) (k ∷ classes) t = if is_same_terminal u t then k else class_among us classes t

abbrev pub wired_of : InMemory → Wired
wired_of n = record { ports = n.ports; instances = n.instances; class = class_among (terminals n) n.classes; count = n.count }
