-- What the driver of a class has to charge.
use Rattle.std.specs.Prelude.{ℕ, ◌&&◌, List, [], ◌∷◌, ◌++◌, map, nat_eq, Option, None, Some, if◌then◌else◌}
use Rattle.std.specs.List.{flat_map, zip, sum_by}
use Rattle.vlsi_base.specs.declared.name.Name.{Name}
use Rattle.machine_core.specs.Machine.{is_input}
use Rattle.machine_core.specs.Named.{is_same_name}
use Rattle.cell_model.specs.declared.cell.Pin.{Pin}
use Rattle.cell_model.specs.Cell.{Cell}
use Rattle.cell_model.specs.Library.{Library, cell_of}
use Rattle.net_core.specs.Netlist.{Netlist}

-- the capacitance of the input pin of this name, in femtofarads; a supply has none
abbrev pub input_capacitance : List Pin → Name → ℕ
input_capacitance [] name = 0
input_capacitance (p ∷ rest) name = if is_input p.port.dir && is_same_name p.port.name name then p.capacitance else input_capacitance rest name

abbrev pub pins_at : Option Cell → List Pin
pins_at None = []
pins_at (Some c) = c.pins

-- of each terminal, in the order of terminals: a port has none
abbrev pub capacitances : Netlist → Library → List ℕ
capacitances n l = map (λ p. 0) n.ports ++ flat_map (λ i. map (input_capacitance (pins_at (cell_of l i.model))) i.pins) n.instances

-- what one terminal adds to the load of a class, where it stands with its own class
abbrev pub share : ℕ → ℕ × ℕ → ℕ
share class t = if nat_eq t.1 class then t.0 else 0

-- the load of a class: the sum of the capacitances of the input pins in it
unfoldable pub load : Netlist → Library → ℕ → ℕ
load n l class = sum_by (share class) (zip (capacitances n l) n.classes)
