use Rattle.std.proofs.Common.{◌≡◌, ◌++◌, map, take}
use Rattle.std.specs.Option.{option_copied}
use Rattle.maze_drawing.specs.Wiring.{wire_item, via_item}
use Rattle.maze_wires.specs.Shown.{shown_wire}
use Rattle.maze_wires.proofs.lines.push_net.Given as goal

abbrev pub invariant-loop-wire : goal.invariant-loop-wire
invariant-loop-wire l = l.items ≡ l.initial.items ++ map (wire_item (option_copied l.name)) (map shown_wire (take l.wire-index l.net.wires.items))

abbrev pub invariant-loop-via : goal.invariant-loop-via
invariant-loop-via l = l.items ≡ l.initial.items ++ map (via_item (option_copied l.name)) (take l.via-index l.net.vias.items)
