use Rattle.ap_io.specs.LineFaults.{fields_behind}
use Rattle.ap_io.proofs.Parts.{connector_index, connector_side, connector_layer}
use Rattle.ap_io.proofs.lines.connector_item.Goals as goal

pub connector-requires-clause-index : goal.connector-requires-clause-index
connector-requires-clause-index c = rw c.fields_behind.ensures (connector_index c.args.scale (fields_behind c.args.line.now) c.requires)

pub connector-requires-clause-side : goal.connector-requires-clause-side
connector-requires-clause-side c = rw c.fields_behind.ensures (connector_side c.args.scale (fields_behind c.args.line.now) c.requires)

pub connector-requires-clause-layer : goal.connector-requires-clause-layer
connector-requires-clause-layer c = rw c.fields_behind.ensures (connector_layer c.args.scale (fields_behind c.args.line.now) c.requires)
