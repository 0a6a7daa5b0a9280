use Rattle.std.proofs.Common.{◌≡◌, ◌++◌, map, drop}
use Rattle.net_core.specs.Frame.{instance_of}
use Rattle.route_draw.specs.Pieces.{instance_lines}
use Rattle.route_draw.proofs.row.push_instances.Given as goal

abbrev pub invariant-loop-k : goal.invariant-loop-k
invariant-loop-k l = l.items ++ instance_lines (map (instance_of l.models) (drop l.k l.nodes)) (drop l.k l.starts)
    ≡ l.initial.items ++ instance_lines (map (instance_of l.models) l.nodes) l.starts
