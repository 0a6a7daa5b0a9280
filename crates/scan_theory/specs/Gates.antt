-- A netlist with gates behind its instances, by a number for the class of each terminal.
use Rattle.std.specs.Prelude.{ℕ, List, [], ◌∷◌, Some, if◌then◌else◌}
use Rattle.vlsi_base.specs.declared.name.Name.{Name}
use Rattle.vlsi_base.specs.declared.name.Terminal.{Terminal}
use Rattle.vlsi_base.specs.Names.{vdd, vss}
use Rattle.machine_core.specs.Machine.{names_of}
use Rattle.machine_core.specs.Named.{is_same_name}
use Rattle.cell_model.specs.Cell.{Cell, cell_inputs}
use Rattle.cell_pins.specs.Pins.{all_ports}
use Rattle.net_core.specs.Netlist.{Instance}
use Rattle.loon_fanout.specs.Sinks.{is_same_owner}

-- a gate that is put in: its name, its cell, the classes that its inputs are in, in the order of pins, and the class of its output
pub record Gate : Type 0 where
  pub name : List ℕ
  pub cell : Cell
  pub reads : List ℕ
  pub shows : ℕ

-- with the pins of its cell
abbrev pub gate_instance : Gate → Instance
gate_instance g = record { name = g.name; model = g.cell.name; pins = names_of (all_ports g.cell) }

-- the class that stands beside the name of a pin; past the end another one
abbrev pub read_class : List Name → List ℕ → ℕ → Name → ℕ
read_class [] reads other pin = other
read_class (p ∷ ps) [] other pin = other
read_class (p ∷ ps) (k ∷ reads) other pin = if is_same_name p pin then k else read_class ps reads other pin

-- the class of a pin of a gate, where the supplies are in these classes
abbrev pub gate_class : ℕ → ℕ → Gate → Name → ℕ
gate_class high low g pin =
    if is_same_name pin vdd then high
    else if is_same_name pin vss then low
    else read_class (cell_inputs g.cell) g.reads g.shows pin

-- the class of a terminal: of a pin of one of the gates by what this reads and shows, and of another by a function
abbrev pub class_with : ℕ → ℕ → (Terminal → ℕ) → List Gate → Terminal → ℕ
class_with high low class [] t = class t
class_with high low class (g ∷ gates) t =
    if is_same_owner t.instance (Some g.name) then gate_class high low g t.pin else class_with high low class gates t
