use Rattle.std.proofs.Common.{◌≡◌, ◌++◌, map, drop}
use Rattle.source_bits.specs.Numbering.{named_bit, number_in}
use Rattle.source_bits.proofs.driven.places.Given as goal

abbrev pub invariant-loop-bit : goal.invariant-loop-bit
invariant-loop-bit l =
    l.made.items ++ map (λ b. number_in l.total l.declared (named_bit l.text b)) (drop l.bit-index l.bits) ≡ map (λ b. number_in l.total l.declared (named_bit l.text b)) l.bits
