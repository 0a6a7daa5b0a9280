use Rattle.std.proofs.Common.{◌≡◌, map}
use Rattle.cell_checks.specs.Points.{point_of, nodes_to}
use Rattle.cell_checks.proofs.points.nodes.Given as goal

abbrev pub invariant-loop-column : goal.invariant-loop-column
invariant-loop-column l = map point_of l.nodes.items ≡ nodes_to l.cell l.name l.column
