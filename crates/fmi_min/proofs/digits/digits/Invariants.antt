use Rattle.std.proofs.Common.{◌≡◌, take}
use Rattle.fmi_min.specs.Moves.{digits}
use Rattle.fmi_min.proofs.digits.digits.Given as goal

-- the digits so far
abbrev pub invariant-loop-bit : goal.invariant-loop-bit
invariant-loop-bit l = l.text.items ≡ digits (take l.bit-index l.bits)
