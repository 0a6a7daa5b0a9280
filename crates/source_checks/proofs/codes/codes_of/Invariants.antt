use Rattle.std.proofs.Common.{◌≡◌, ◌+◌, map, take}
use Rattle.source_checks.specs.Codes.{AreSmall}
use Rattle.source_checks.proofs.codes.codes_of.Given as goal

abbrev pub invariant-loop-bit : goal.invariant-loop-bit
invariant-loop-bit l = (l.codes.items ≡ map (λ k. k + 1) (take l.bit-index l.bits)) × AreSmall l.codes.items
