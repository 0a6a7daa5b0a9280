use Rattle.std.proofs.Common.{◌≡◌, map}
use Rattle.bool_expr.specs.View.{view}
use Rattle.fsm_machine.specs.MachineOf.{up, at_state}
use Rattle.syf_machine.proofs.inner.all_at.Given as goal

abbrev pub invariant-loop-state : goal.invariant-loop-state
invariant-loop-state l = map view l.made.items ≡ map (at_state l.codes l.first) (up 0 l.state)
