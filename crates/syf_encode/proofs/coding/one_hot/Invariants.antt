use Rattle.std.proofs.Common.{◌≡◌, ◌==◌, map}
use Rattle.fsm_machine.specs.MachineOf.{up}
use Rattle.syf_encode.proofs.coding.one_hot.Given as goal

abbrev pub invariant-loop-state : goal.invariant-loop-state
invariant-loop-state l = l.codes.items ≡ map (λ s. map (λ k. k == s) (up 0 l.count)) (up 0 l.state)
