use Rattle.std.proofs.Common.{◌∙◌, sym, subst, ap}
use Rattle.std.specs.Prelude.{true}
use Rattle.sym_geom.specs.declared.rect.Rect.{Rect}
use Rattle.cougar_extract.specs.Stages.{HasCellEdges}
use Rattle.real_boxes.specs.Marks.{shortened}
use Rattle.real_boxes.proofs.Reaches.{square_edges, plain_square_edges}
use Rattle.real_boxes.proofs.mark.connector_core.Goals as goal

pub shortened-requires : goal.shortened-requires
shortened-requires c =
    let r = c.requires in
    subst (λ (s : Rect). HasCellEdges s) (sym c.connector_rect.ensures)
    (plain_square_edges c.args.connector.now.x c.args.connector.now.y c.args.connector.now.width r.x r.y r.positive r.width)

pub returns-clause-edges : goal.returns-clause-edges
returns-clause-edges c =
    let r = c.requires in
    let is = c.shortened.ensures ∙ ap (shortened true) c.connector_rect.ensures in
    subst (λ (s : Rect). HasCellEdges s) (sym is)
    (square_edges c.args.connector.now.x c.args.connector.now.y c.args.connector.now.width r.x r.y r.positive r.width)
