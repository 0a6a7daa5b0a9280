use Rattle.asimut_sim.proofs.ColumnLemmas.{rises-next}
use Rattle.asimut_sim.proofs.columns.push_rising.Goals as goal

pub loop-step-preserved : goal.loop-step-preserved
loop-step-preserved c =
    rw (c.in_ok-push.ensures.items, c.in_ok-bit_name.ensures)
    (rises-next c.args.names.now.items c.loop-step.names.items c.args.text.now c.args.first c.args.count c.loop-step.step c.loop-step-test.true c.loop-step.invariant)
