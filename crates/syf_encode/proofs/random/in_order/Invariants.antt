use Rattle.std.proofs.Common.{◌≡◌}
use Rattle.fsm_machine.specs.MachineOf.{up}
use Rattle.syf_encode.proofs.random.in_order.Given as goal

abbrev pub invariant-loop-number : goal.invariant-loop-number
invariant-loop-number l = l.numbers.items ≡ up 0 l.number
