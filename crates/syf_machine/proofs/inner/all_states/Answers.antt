use Rattle.syf_machine.proofs.Made.{next_up}
use Rattle.syf_machine.proofs.inner.all_states.Goals as goal

pub loop-state-preserved : goal.loop-state-preserved
loop-state-preserved c = next_up c.loop-state.states.items c.push.new.self.items c.loop-state.state c.in_ok-push.ensures.items c.loop-state.invariant
