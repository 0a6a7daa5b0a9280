use Rattle.std.proofs.Common.{◌≡◌, ◌==◌, map}
use Rattle.fsm_machine.specs.MachineOf.{up}
use Rattle.syf_encode.proofs.coding.one_bit.Given as goal

abbrev pub invariant-loop-k : goal.invariant-loop-k
invariant-loop-k l = l.bits.items ≡ map (λ k. k == l.place) (up 0 l.k)
