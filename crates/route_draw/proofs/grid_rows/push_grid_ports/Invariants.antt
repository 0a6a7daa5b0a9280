use Rattle.std.proofs.Common.{◌≡◌, ◌++◌, drop, length}
use Rattle.ocp_rows.specs.Placement.{grid_ports, port_column}
use Rattle.route_draw.proofs.grid_rows.push_grid_ports.Given as goal

abbrev pub invariant-loop-k : goal.invariant-loop-k
invariant-loop-k l = l.items ++ grid_ports (port_column (length l.names) l.columns) l.rows l.k (drop l.k l.names)
    ≡ l.initial.items ++ grid_ports (port_column (length l.names) l.columns) l.rows 0 l.names
