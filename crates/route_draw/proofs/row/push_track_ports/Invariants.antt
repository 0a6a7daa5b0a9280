use Rattle.std.proofs.Common.{◌≡◌, ◌++◌, drop}
use Rattle.ocp_rows.specs.Placement.{track_ports}
use Rattle.route_draw.proofs.row.push_track_ports.Given as goal

abbrev pub invariant-loop-k : goal.invariant-loop-k
invariant-loop-k l = l.items ++ track_ports l.k (drop l.k l.names) ≡ l.initial.items ++ track_ports 0 l.names
