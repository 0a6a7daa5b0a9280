use Rattle.std.proofs.Common.{◌≡◌, ◌++◌, map, take, Some}
use Rattle.asimut_sim.proofs.values.push_bits.Given as goal

abbrev pub invariant-loop-bit : goal.invariant-loop-bit
invariant-loop-bit l = l.wanted.items ≡ l.initial.wanted.items ++ map (λ b. Some b) (take l.bit-index l.bits)
