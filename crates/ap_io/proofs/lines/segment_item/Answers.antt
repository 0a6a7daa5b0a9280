use Rattle.ap_io.specs.LineFaults.{fields_behind}
use Rattle.ap_io.proofs.Parts.{segment_label, segment_near, segment_layer}
use Rattle.ap_io.proofs.lines.segment_item.Goals as goal

pub segment-requires-clause-near : goal.segment-requires-clause-near
segment-requires-clause-near c = rw c.fields_behind.ensures (segment_near c.args.scale (fields_behind c.args.line.now) c.requires)

pub segment-requires-clause-name : goal.segment-requires-clause-name
segment-requires-clause-name c = rw c.fields_behind.ensures (segment_label c.args.scale (fields_behind c.args.line.now) c.requires)

pub segment-requires-clause-layer : goal.segment-requires-clause-layer
segment-requires-clause-layer c = rw c.fields_behind.ensures (segment_layer c.args.scale (fields_behind c.args.line.now) c.requires)
