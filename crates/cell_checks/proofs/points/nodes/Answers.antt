use Rattle.std.proofs.Common.{◌≡◌, sym, ap, ◌∙◌, arith}
use Rattle.cell_checks.specs.Points.{nodes_to}
use Rattle.cell_checks.proofs.PointLists.{all_nodes}
use Rattle.cell_checks.proofs.points.nodes.Goals as goal

pub returns : goal.returns
returns c =
    let ended : c.loop-column.column ≡ c.grid_columns-column-end.result = omega arith in
    c.loop-column.invariant ∙ ap (nodes_to c.args.cell.now c.args.name.now) (ended ∙ c.grid_columns-column-end.ensures.value)
    ∙ all_nodes c.args.cell.now c.args.name.now c.requires.row
