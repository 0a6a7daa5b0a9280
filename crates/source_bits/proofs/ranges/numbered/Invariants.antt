use Rattle.std.proofs.Common.{◌≡◌, ℕ, map, take, Some}
use Rattle.source_bits.proofs.ranges.numbered.Given as goal

abbrev pub invariant-loop-number : goal.invariant-loop-number
invariant-loop-number l = l.bits.items ≡ map (λ (k : ℕ). Some k) (take l.number-index l.numbers)
