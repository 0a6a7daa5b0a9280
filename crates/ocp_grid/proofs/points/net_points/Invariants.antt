use Rattle.std.proofs.Common.{◌≡◌, length}
use Rattle.ocp_grid.proofs.Nets.{AreNetsOf}
use Rattle.ocp_grid.proofs.points.net_points.Given as goal

abbrev pub invariant-loop-k : goal.invariant-loop-k
invariant-loop-k l = record {
  many : length l.nets.items ≡ l.k;
  each : AreNetsOf l.library l.netlist l.placement l.nets.items;
}
