use Rattle.std.proofs.Common.{◌≡◌, ◌≤◌, map, drop}
use Rattle.maze_nets.specs.Nets.{points_of, least, greatest, along_axis}
use Rattle.maze_nets.proofs.points.extent.Given as goal

abbrev pub invariant-loop-at : goal.invariant-loop-at
invariant-loop-at l = record {
  low : least l.low (drop l.at (map (along_axis l.upright) (points_of l.net))) ≡ least l.first (drop 1 (map (along_axis l.upright) (points_of l.net)));
  high : greatest l.high (drop l.at (map (along_axis l.upright) (points_of l.net))) ≡ greatest l.first (drop 1 (map (along_axis l.upright) (points_of l.net)));
  order : l.low ≤ l.high;
}
