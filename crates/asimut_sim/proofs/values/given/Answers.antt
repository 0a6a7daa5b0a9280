use Rattle.std.proofs.Common.{arith}
use Rattle.asimut_sim.proofs.ValueLemmas.{length-fits, gives-next}
use Rattle.asimut_sim.proofs.values.given.Goals as goal

pub bounds-values-k : goal.bounds-values-k
bounds-values-k c = omega (arith, length-fits c.args.columns.now c.args.values.now c.requires)

pub loop-k-preserved : goal.loop-k-preserved
loop-k-preserved c =
    rw (c.in_ok-push_given.ensures)
    (gives-next c.args.columns.now c.args.values.now c.loop-k.k c.loop-k.bits.items c.index-columns-k.result c.index-values-k.result
    c.loop-k-test.true c.index-columns-k.is (omega (arith, length-fits c.args.columns.now c.args.values.now c.requires)) c.index-values-k.is c.loop-k.invariant)
