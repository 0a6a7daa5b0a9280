use Rattle.std.proofs.Common.{◌≡◌, ◌++◌, map}
use Rattle.cell_checks.specs.Points.{point_of, nodes_in}
use Rattle.cell_checks.proofs.points.push_nodes.Given as goal

abbrev pub invariant-loop-row : goal.invariant-loop-row
invariant-loop-row l = map point_of l.nodes.items ≡ map point_of l.initial.nodes.items ++ nodes_in l.cell l.name l.column l.row
