use Rattle.std.proofs.Common.{◌≡◌, ◌++◌, drop}
use Rattle.sym_shapes.specs.Shape.{connector_names}
use Rattle.cell_checks.proofs.connectors.connector_names.Given as goal

abbrev pub invariant-loop-item : goal.invariant-loop-item
invariant-loop-item l = l.names.items ++ connector_names (drop l.item-index l.items) ≡ connector_names l.items
