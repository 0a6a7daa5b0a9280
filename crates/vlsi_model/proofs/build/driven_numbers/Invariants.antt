use Rattle.std.proofs.Common.{◌≡◌, map, take}
use Rattle.source_bits.specs.declared.driven.DrivenBit.{DrivenBit}
use Rattle.vlsi_model.proofs.build.driven_numbers.Given as goal

abbrev pub invariant-loop-d : goal.invariant-loop-d
invariant-loop-d l = l.numbers.items ≡ map (λ (b : DrivenBit). b.bit) (take l.d-index l.driven)
