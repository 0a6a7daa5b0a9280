-- Gates of one input put into a netlist, and sinks put behind them.
use Rattle.std.specs.Prelude.{ℕ, ◌-◌, List, [], ◌∷◌, ◌++◌, Some, if◌then◌else◌}
use Prim.Native.Nat.{suc}
use Rattle.std.specs.List.{list_any}
use Rattle.vlsi_base.specs.declared.name.Name.{Name}
use Rattle.vlsi_base.specs.declared.name.Terminal.{Terminal}
use Rattle.vlsi_base.specs.Names.{vdd, vss}
use Rattle.machine_core.specs.Machine.{names_of}
use Rattle.machine_core.specs.Named.{is_same_name}
use Rattle.cell_model.specs.Cell.{Cell, cell_inputs}
use Rattle.cell_pins.specs.Pins.{all_ports}
use Rattle.net_core.specs.Netlist.{port}
use Rattle.loon_fanout.specs.Sinks.{Wired, is_same_owner, is_same_terminal}

-- The class of a pin of a gate put behind a class: supplies are in the classes of their ports, inputs in the class that is read,
-- and the output has a class of its own.
abbrev pub pin_class : Wired → Cell → ℕ → Name → ℕ
pin_class n c read pin =
    if is_same_name pin vdd then n.class (port vdd)
    else if is_same_name pin vss then n.class (port vss)
    else if list_any (λ input. is_same_name input pin) (cell_inputs c) then read
    else n.count

-- one gate more, behind a class
abbrev pub with_gate : Cell → Wired → ℕ → List ℕ → Wired
with_gate c n read name = record {
  ports = n.ports;
  instances = n.instances ++ record { name = name; model = c.name; pins = names_of (all_ports c) } ∷ [];
  class = λ t. if is_same_owner t.instance (Some name) then pin_class n c read t.pin else n.class t;
  count = suc n.count;
}

-- gates of these names in a row: the first reads the class, each further one what the one before it drives
abbrev pub with_row : Cell → Wired → ℕ → List (List ℕ) → Wired
with_row c n read [] = n
with_row c n read (name ∷ names) = with_row c (with_gate c n read name) n.count names

-- these terminals leave their classes for the last one
abbrev pub with_moved : List Terminal → Wired → Wired
with_moved group n = record n { class = λ t. if list_any (is_same_terminal t) group then n.count - 1 else n.class t }

-- a group of sinks behind gates in a row
abbrev pub with_group : Cell → Wired → ℕ → List (List ℕ) → List Terminal → Wired
with_group c n read names group = with_moved group (with_row c n read names)
