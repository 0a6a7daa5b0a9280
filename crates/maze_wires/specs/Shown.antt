-- What the wires and vias in memory are.
use Rattle.std.specs.Prelude.{Bool, map}
use Rattle.maze_drawing.specs.Wiring as wiring
use Rattle.maze_drawing.specs.Wiring.{NetWiring, wire_precedes}
use Rattle.maze_wires.specs.declared.wires.Wire.{Wire}
use Rattle.maze_wires.specs.declared.wires.NetWires.{NetWires}

abbrev pub shown_wire : Wire → wiring.Wire
shown_wire w = record { from = w.from; steps = w.steps }

abbrev pub shown_net : NetWires → NetWiring
shown_net w = record { wires = map shown_wire w.wires.items; vias = w.vias.items }

-- in the order of wires
abbrev pub comes_before : Wire → Wire → Bool
comes_before v w = wire_precedes (shown_wire v) (shown_wire w)
