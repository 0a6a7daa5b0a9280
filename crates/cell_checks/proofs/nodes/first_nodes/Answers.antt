use Rattle.std.proofs.Common.{◌<◌, length, arith}
use Rattle.cell_model.specs.Cell.{cell_width}
use Rattle.cell_model.specs.Access.{grid_lines}
use Rattle.cell_checks.proofs.NodeFronts.{more_than}
use Rattle.cell_checks.proofs.nodes.first_nodes.Goals as goal

pub returns : goal.returns
returns c =
    let more : c.args.rank < length c.loop-column.nodes.items = omega arith in
    more_than c.args.cell.now c.args.name.now c.loop-column.from c.grid_columns-end.result (grid_lines (cell_width c.args.cell.now)) c.args.rank
    c.loop-column.nodes.items c.loop-column.invariant.0 c.grid_columns-end.ensures.value c.loop-column.invariant.1 more
