-- The nets of a netlist, in the order of their tracks.
use Rattle.std.specs.Prelude.{ℕ, Bool, false, not, ◌||◌, nat_eq, List, [], ◌∷◌, ◌++◌, map, filter, Option, None, Some, if◌then◌else◌}
use Prim.Native.Nat.{suc}
use Rattle.vlsi_base.specs.declared.name.Name.{Name}
use Rattle.vlsi_base.specs.Names.{vdd, vss}
use Rattle.machine_core.specs.Named.{is_same_name}
use Rattle.cell_model.specs.Cell.{Cell, cell_outputs}
use Rattle.cell_model.specs.Library.{Library, cell_of}
use Rattle.net_meaning.specs.Netlist.{Member, AbstractNetlist, port, pin_of}

-- a port that is no supply
abbrev pub is_signal : Name → Bool
is_signal name = not (is_same_name name vdd || is_same_name name vss)

-- the ports that stand at tracks, in the order of the netlist's ports
abbrev pub signal_ports : AbstractNetlist → List Name
signal_ports n = filter is_signal n.ports

-- their classes
abbrev pub port_classes : AbstractNetlist → List ℕ
port_classes n = map (λ name. n.class (port name)) (signal_ports n)

-- the classes of an instance's output pins, in the order of names, and those of all instances in their order
abbrev pub driven_by : AbstractNetlist → List ℕ → Option Cell → List ℕ
driven_by n owner None = []
driven_by n owner (Some c) = map (λ pin. n.class (pin_of owner pin)) (cell_outputs c)

abbrev pub driven : AbstractNetlist → Library → List Member → List ℕ
driven n l [] = []
driven n l (one ∷ rest) = driven_by n one.name (cell_of l one.model) ++ driven n l rest

-- a class stands among some
abbrev pub is_among : List ℕ → ℕ → Bool
is_among [] class = false
is_among (k ∷ ks) class = nat_eq k class || is_among ks class

-- The nets by their numbers, each by its class: first one for each port but the supplies, in the order of names; then one for each
-- output pin whose class has no such port, in the order of instances.
abbrev pub net_classes : AbstractNetlist → Library → List ℕ
net_classes n l = port_classes n ++ filter (λ class. not (is_among (port_classes n) class)) (driven n l n.instances)

-- where a class stands first among some; past them all where it doesn't
abbrev pub place_among : List ℕ → ℕ → ℕ
place_among [] class = 0
place_among (k ∷ ks) class = if nat_eq k class then 0 else suc (place_among ks class)

-- the net of a class; that of a supply's class is past all nets
abbrev pub net_number : AbstractNetlist → Library → ℕ → ℕ
net_number n l class = place_among (net_classes n l) class
