use Rattle.std.proofs.Common.{◌≡◌, ℕ, map, drop}
use Rattle.std.specs.Prelude.{filter, not, option_map}
use Rattle.source_checks.specs.Codes.{least_code, name_at}
use Rattle.source_checks.proofs.Least.{together}
use Rattle.fsm_io.specs.Pieces.{is_marked_bit, bit_code}
use Rattle.fsm_io.proofs.drivers.least_unmarked.Given as goal

abbrev pub invariant-loop-bit : goal.invariant-loop-bit
invariant-loop-bit l =
    together (option_map bit_code l.least) (least_code (filter (λ (c : ℕ). not (is_marked_bit l.numbers l.marks (name_at l.symbol.text c))) (map bit_code (drop l.bit-index l.bits))))
    ≡ least_code (filter (λ (c : ℕ). not (is_marked_bit l.numbers l.marks (name_at l.symbol.text c))) (map bit_code l.bits))
