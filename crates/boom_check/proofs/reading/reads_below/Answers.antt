use Rattle.boom_check.proofs.ReadsMore.{reads_more}
use Rattle.boom_check.proofs.reading.reads_below.Goals as goal

pub loop-k-preserved : goal.loop-k-preserved
loop-k-preserved c =
    reads_more c.args.first c.args.equations.now c.loop-k.k c.index-equations-k.result c.loop-k-test.true c.index-equations-k.is c.loop-k.invariant (c.is_over.ensures c.if-not-is_over.false)
