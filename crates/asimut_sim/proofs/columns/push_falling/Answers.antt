use Rattle.asimut_sim.proofs.ColumnLemmas.{falls-next}
use Rattle.asimut_sim.proofs.columns.push_falling.Goals as goal

pub loop-step-preserved : goal.loop-step-preserved
loop-step-preserved c =
    rw (c.in_ok-push.ensures.items, c.in_ok-bit_name.ensures)
    (falls-next c.args.names.now.items c.loop-step.names.items c.args.text.now c.args.last c.args.count c.loop-step.step c.loop-step-test.true c.loop-step.invariant)
