use Rattle.std.proofs.Common.{◌≡◌, ℕ, map, drop}
use Rattle.std.specs.Prelude.{filter, not, option_map}
use Rattle.source_checks.specs.Codes.{least_code, name_at}
use Rattle.source_checks.proofs.Least.{together}
use Rattle.fsm_machine.specs.Assigned.{sets_output}
use Rattle.fsm_code.specs.View.{body_view}
use Rattle.fsm_io.specs.Assigned.{always}
use Rattle.fsm_io.specs.Pieces.{bit_code}
use Rattle.fsm_io.proofs.assigned.least_bit.Given as goal

abbrev pub invariant-loop-bit : goal.invariant-loop-bit
invariant-loop-bit l =
    together (option_map bit_code l.least) (least_code (filter (λ (c : ℕ). not (always l.count (sets_output (name_at l.symbol.text c)) (body_view l.body))) (map bit_code (drop l.bit-index l.bits))))
    ≡ least_code (filter (λ (c : ℕ). not (always l.count (sets_output (name_at l.symbol.text c)) (body_view l.body))) (map bit_code l.bits))
