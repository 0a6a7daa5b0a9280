use Rattle.cell_checks.proofs.NodeLemmas.{node_told}
use Rattle.cell_checks.proofs.nodes.is_node.Goals as goal

pub returns : goal.returns
returns c =
    node_told c.args.cell.now c.args.shapes.now c.args.name.now c.args.column c.args.row c.pad_at-pad.result c.has_rail.result
    c.requires.row c.requires.shapes c.pad_at-pad.ensures c.has_rail.ensures
