use Rattle.std.proofs.Common.{arith}
use Rattle.asimut_sim.proofs.ValueLemmas.{length-fits, shows-next, shows-enough}
use Rattle.asimut_sim.proofs.values.shown_values.Goals as goal

pub bounds-values-k : goal.bounds-values-k
bounds-values-k c = omega (arith, length-fits c.args.columns.now c.args.values.now c.requires.values)

pub split_at-requires : goal.split_at-requires
split_at-requires c =
    rw c.width.ensures
    (shows-enough c.args.columns.now c.args.values.now c.args.seen.now c.loop-k.k c.loop-k.rest.now c.loop-k.made.items c.index-columns-k.result
    c.loop-k-test.true c.index-columns-k.is c.loop-k.invariant)

pub loop-k-preserved : goal.loop-k-preserved
loop-k-preserved c =
    rw (c.in_ok-push.ensures.items)
    (shows-next c.args.columns.now c.args.values.now c.args.seen.now c.loop-k.k c.loop-k.rest.now c.split_at.result.1.now c.loop-k.made.items
    c.index-columns-k.result c.index-values-k.result c.in_ok-shown_value.field-0
    c.loop-k-test.true c.index-columns-k.is (omega (arith, length-fits c.args.columns.now c.args.values.now c.requires.values)) c.index-values-k.is
    (rw (← c.width.ensures) c.split_at.ensures.back) (rw (← c.width.ensures) c.split_at.ensures.back_len)
    (rw (← c.width.ensures, ← c.split_at.ensures.front) c.in_ok-shown_value.ensures)
    c.loop-k.invariant)
