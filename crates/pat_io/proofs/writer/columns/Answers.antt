use Rattle.pat_io.proofs.Pieces.{columns-next}
use Rattle.pat_io.proofs.writer.columns.Goals as goal

pub loop-item-preserved : goal.loop-item-preserved
loop-item-preserved c =
    rw c.in_ok-column.ensures
    (columns-next c.args.out.now c.args.items.now c.loop-item.item-index c.loop-item.out c.item-item.result c.loop-item-test.true c.item-item.is c.loop-item.invariant)
