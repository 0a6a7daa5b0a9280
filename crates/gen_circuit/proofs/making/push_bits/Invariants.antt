use Rattle.std.proofs.Common.{◌≡◌, ◌++◌, map}
use Rattle.vlsi_base.specs.Range.{rising}
use Rattle.gen_circuit.specs.Generated.{bit_of}
use Rattle.gen_circuit.proofs.making.push_bits.Given as goal

-- the bits so far
abbrev pub invariant-loop-bit : goal.invariant-loop-bit
invariant-loop-bit l = l.names.items ≡ l.initial.names.items ++ map (bit_of l.text) (rising 0 l.bit)
