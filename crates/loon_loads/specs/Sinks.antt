-- Pins of cells that are sinks of the nets that they are in.
use Rattle.std.specs.Prelude.{Bool, false, not, ◌&&◌, Option, None, Some}
use Rattle.std.specs.List.{list_any}
use Rattle.vlsi_base.specs.declared.name.Name.{Name}
use Rattle.machine_core.specs.Machine.{is_clock}
use Rattle.machine_core.specs.Named.{is_same_name}
use Rattle.cell_model.specs.Cell.{Function, gate, flip_flop, other, opaque, Cell, cell_inputs}

-- a pin at which registers load
abbrev pub is_clock_of : Function → Name → Bool
is_clock_of (gate e) name = false
is_clock_of (flip_flop data_pin clock_pin) name = is_same_name clock_pin name
is_clock_of (other machine) name = is_clock machine.clock name
is_clock_of opaque name = false

-- an input of a cell that is no clock pin; vdd and vss are no inputs of cells
abbrev pub is_sink_pin : Cell → Name → Bool
is_sink_pin c name = list_any (λ pin. is_same_name pin name) (cell_inputs c) && not (is_clock_of c.function name)

abbrev pub is_sink_of : Option Cell → Name → Bool
is_sink_of None name = false
is_sink_of (Some c) name = is_sink_pin c name
