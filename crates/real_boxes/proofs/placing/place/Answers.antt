use Rattle.std.proofs.Common.{◌∙◌, List, ap}
use Rattle.sym_geom.specs.declared.item.Item.{Item}
use Rattle.real_boxes.specs.Marks.{drawn_marks}
use Rattle.real_boxes.proofs.Reaches.{read_edges}
use Rattle.real_boxes.proofs.placing.place.Goals as goal

pub placed-requires-clause-rect : goal.placed-requires-clause-rect
placed-requires-clause-rect c =
    read_edges c.args.cell.now.items c.deref-mark-items.result.now c.loop-mark.mark-index c.mark-item.result
    (c.deref-mark-items.ensures.value ∙ c.in_ok-drawn.ensures ∙ ap (λ (items : List Item). drawn_marks items) c.as_slice.ensures) c.requires.formed.ready c.loop-mark-test.true
    c.mark-item.is
