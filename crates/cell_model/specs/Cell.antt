-- Cells: what they compute, and their pins.
use Rattle.std.specs.Prelude.{ℤ, ◌-ℤ◌, List, map, filter, not}
use Rattle.vlsi_base.specs.declared.name.Name.{Name}
use Rattle.vlsi_base.specs.declared.name.Port.{Port}
use Rattle.machine_core.specs.Machine.{is_input, names_of}
pub use Rattle.cell_model.specs.Function.{Function, gate, flip_flop, other, opaque}
use Rattle.cell_model.specs.declared.cell.Cell.{Cell as CellParts}

-- a cell of a library, by its parts
abbrev pub Cell : Type 0
Cell = CellParts

abbrev pub pin_ports : Cell → List Port
pin_ports c = map (λ p. p.port) c.pins

-- the input pins, and the output pins
abbrev pub cell_inputs : Cell → List Name
cell_inputs c = names_of (filter (λ p. is_input p.dir) (pin_ports c))

abbrev pub cell_outputs : Cell → List Name
cell_outputs c = names_of (filter (λ p. not (is_input p.dir)) (pin_ports c))

abbrev pub cell_width : Cell → ℤ
cell_width c = c.bounds.x2 -ℤ c.bounds.x1

abbrev pub cell_height : Cell → ℤ
cell_height c = c.bounds.y2 -ℤ c.bounds.y1
