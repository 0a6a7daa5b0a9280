use Rattle.std.proofs.Common.{◌≡◌, ◌≤◌, ◌-◌}
use Rattle.cell_checks.specs.Nodes.{node_columns}
use Rattle.cell_checks.proofs.nodes.first_nodes.Given as goal

abbrev pub invariant-loop-column : goal.invariant-loop-column
invariant-loop-column l = (l.from ≤ l.end) × (l.nodes.items ≡ node_columns l.cell l.name l.from)

abbrev pub decreases-loop-column : goal.decreases-loop-column
decreases-loop-column l = l.end - l.from
