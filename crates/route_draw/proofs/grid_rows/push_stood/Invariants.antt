use Rattle.std.proofs.Common.{◌≡◌, ◌++◌, map, drop}
use Rattle.net_core.specs.Frame.{instance_of}
use Rattle.route_draw.specs.GridPieces.{stood_lines}
use Rattle.route_draw.proofs.grid_rows.push_stood.Given as goal

abbrev pub invariant-loop-k : goal.invariant-loop-k
invariant-loop-k l = l.items ++ stood_lines (map (instance_of l.models) (drop l.k l.nodes)) (drop l.k l.starts) (drop l.k l.row_numbers)
    ≡ l.initial.items ++ stood_lines (map (instance_of l.models) l.nodes) l.starts l.row_numbers
