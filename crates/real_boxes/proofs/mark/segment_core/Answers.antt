use Rattle.std.proofs.Common.{◌∙◌, sym, subst}
use Rattle.sym_geom.specs.declared.rect.Rect.{Rect}
use Rattle.cougar_extract.specs.Stages.{HasCellEdges}
use Rattle.real_boxes.specs.Marks.{shortened}
use Rattle.real_boxes.proofs.Reaches.{run_edges, wire_edges}
use Rattle.real_boxes.proofs.mark.segment_core.Goals as goal

pub shortened-requires : goal.shortened-requires
shortened-requires c = subst (λ (r : Rect). HasCellEdges r) (sym c.segment_rect.ensures) (wire_edges c.args.segment.now.direction c.args.segment.now c.requires)

pub returns-clause-edges : goal.returns-clause-edges
returns-clause-edges c =
    let is = c.shortened.ensures ∙ (λ i. shortened (c.is_upright.ensures i) (c.segment_rect.ensures i)) in
    subst (λ (r : Rect). HasCellEdges r) (sym is) (run_edges c.args.segment.now.direction c.args.segment.now c.requires)
