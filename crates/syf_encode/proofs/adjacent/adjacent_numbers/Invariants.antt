use Rattle.std.proofs.Common.{◌≡◌, ◌+◌}
use Rattle.fsm_machine.specs.Encoding.{leads, cost, exchanges, lowered}
use Rattle.fsm_machine.specs.MachineOf.{up}
use Rattle.fsm_machine.proofs.Coding.{IsArranged}
use Rattle.fsm_code.specs.View.{body_view}
use Rattle.syf_encode.proofs.adjacent.adjacent_numbers.Given as goal

-- the numbers are in some order, and the search from them on comes to the same
abbrev pub invariant-loop-pair : goal.invariant-loop-pair
invariant-loop-pair l = record {
  arranged : IsArranged l.count l.numbers.items;
  same : lowered (cost (λ s t. leads s t (body_view l.body)) l.count) (exchanges l.count) (cost (λ s t. leads s t (body_view l.body)) l.count l.numbers.items + 1) l.numbers.items
      ≡ lowered (cost (λ s t. leads s t (body_view l.body)) l.count) (exchanges l.count) (cost (λ s t. leads s t (body_view l.body)) l.count (up 0 l.count) + 1) (up 0 l.count);
}

-- each exchange lowers the cost
abbrev pub decreases-loop-pair : goal.decreases-loop-pair
decreases-loop-pair l = cost (λ s t. leads s t (body_view l.body)) l.count l.numbers.items
