use Rattle.cell_checks.proofs.BareColumns.{Narrowed}
use Rattle.cell_checks.proofs.nodes.next_column.Given as goal

abbrev pub invariant-loop-shape : goal.invariant-loop-shape
invariant-loop-shape l = Narrowed l.shapes l.name l.from l.next l.end l.shape-index
