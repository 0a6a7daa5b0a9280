use Rattle.std.proofs.Common.{◌≡◌, ◌<◌, ℕ, length}
use Rattle.grid_core.specs.Shown.{tree_in}
use Rattle.maze_drawing.specs.Wiring.{IsWiringOf}
use Rattle.net_core.specs.Places.{Stands}
use Rattle.maze_nets.specs.declared.points.NetPoints.{NetPoints}
use Rattle.route_draw.specs.GridPieces.{via_points, wiring_in}
use Rattle.route_draw.proofs.grid_nets.all_wires.Given as goal

abbrev pub invariant-loop-k : goal.invariant-loop-k
invariant-loop-k l = record {
  many : length l.made.items ≡ l.k;
  each : (j : ℕ) (net : NetPoints) → j < l.k → Stands l.nets j net → IsWiringOf (tree_in l.routes j) (via_points net) (wiring_in l.made.items j);
}
