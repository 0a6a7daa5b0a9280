use Rattle.std.proofs.Common.{◌≡◌}
use Rattle.fsm_machine.specs.MachineOf.{up}
use Rattle.syf_machine.proofs.inner.all_states.Given as goal

abbrev pub invariant-loop-state : goal.invariant-loop-state
invariant-loop-state l = l.states.items ≡ up 0 l.state
