use Rattle.bool_expr.specs.View.{view}
use Rattle.fsm_machine.specs.MachineOf.{at_state}
use Rattle.syf_machine.proofs.Made.{one_more}
use Rattle.syf_machine.proofs.inner.all_at.Goals as goal

pub loop-state-preserved : goal.loop-state-preserved
loop-state-preserved c =
    one_more view (at_state c.args.codes.now c.args.first) c.loop-state.made.items c.push.new.self.items c.in_ok-at_state.field-0 c.loop-state.state c.in_ok-push.ensures.items
    c.in_ok-at_state.ensures c.loop-state.invariant
