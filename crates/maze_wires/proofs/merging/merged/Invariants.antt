use Rattle.std.proofs.Common.{◌≡◌, ◌++◌, map, drop}
use Rattle.maze_drawing.specs.Merge.{merge_from}
use Rattle.maze_wires.specs.Shown.{shown_wire}
use Rattle.maze_wires.proofs.merging.merged.Given as goal

abbrev pub invariant-loop-step : goal.invariant-loop-step
invariant-loop-step l = map shown_wire l.wires.items ++ merge_from (shown_wire l.wire) (drop l.step-index l.rest) ≡ merge_from (shown_wire l.initial.wire) l.rest
