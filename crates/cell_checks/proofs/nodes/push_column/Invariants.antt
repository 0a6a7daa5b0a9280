use Rattle.std.proofs.Common.{◌≡◌, ◌++◌}
use Rattle.cell_checks.specs.Nodes.{column_nodes}
use Rattle.cell_checks.proofs.nodes.push_column.Given as goal

abbrev pub invariant-loop-row : goal.invariant-loop-row
invariant-loop-row l = l.nodes.items ≡ l.initial.nodes.items ++ column_nodes l.cell l.name l.column l.row
