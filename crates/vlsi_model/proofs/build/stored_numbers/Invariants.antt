use Rattle.std.proofs.Common.{◌≡◌, map, take}
use Rattle.source_bits.specs.declared.driven.StoredBit.{StoredBit}
use Rattle.vlsi_model.proofs.build.stored_numbers.Given as goal

abbrev pub invariant-loop-s : goal.invariant-loop-s
invariant-loop-s l = l.numbers.items ≡ map (λ (b : StoredBit). b.bit) (take l.s-index l.stored)
