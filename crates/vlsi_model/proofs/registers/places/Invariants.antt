use Rattle.std.proofs.Common.{◌≡◌, map, take}
use Rattle.vlsi_model.specs.declared.registers.NamedBit.{NamedBit}
use Rattle.vlsi_model.proofs.registers.places.Given as goal

abbrev pub invariant-loop-bit : goal.invariant-loop-bit
invariant-loop-bit l = l.places.items ≡ map (λ (b : NamedBit). b.place) (take l.bit-index l.bits)
