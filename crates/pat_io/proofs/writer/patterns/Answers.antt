use Rattle.pat_io.proofs.Pieces.{patterns-next}
use Rattle.pat_io.proofs.writer.patterns.Goals as goal

pub loop-item-preserved : goal.loop-item-preserved
loop-item-preserved c =
    rw c.in_ok-pattern.ensures
    (patterns-next c.args.out.now c.args.columns.now c.args.items.now c.loop-item.item-index c.loop-item.out c.item-item.result c.loop-item-test.true c.item-item.is c.loop-item.invariant)
