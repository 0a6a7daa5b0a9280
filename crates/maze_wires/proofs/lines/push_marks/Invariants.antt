use Rattle.std.proofs.Common.{◌≡◌, ◌++◌, map, take}
use Rattle.maze_drawing.specs.Law.{mark}
use Rattle.maze_wires.proofs.lines.push_marks.Given as goal

abbrev pub invariant-loop-point : goal.invariant-loop-point
invariant-loop-point l = l.items ≡ l.initial.items ++ map (mark l.net) (take l.point-index l.points)
