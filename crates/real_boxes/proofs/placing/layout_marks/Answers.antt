use Rattle.cougar_extract.proofs.Steps.{read_stands, placed_line}
use Rattle.real_boxes.proofs.placing.layout_marks.Goals as goal

pub place_item-requires-clause-places : goal.place_item-requires-clause-places
place_item-requires-clause-places c =
    placed_line c.args.items.now c.loop-item.item-index c.item-item.result
    (read_stands c.args.items.now c.loop-item.item-index c.item-item.result c.loop-item-test.true c.item-item.is) c.requires.places
