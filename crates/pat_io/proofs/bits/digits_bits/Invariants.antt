use Rattle.std.proofs.Common.{◌≡◌, ◌++◌, drop}
use Rattle.pat_io.specs.Digits.{digits_bits}
use Rattle.pat_io.proofs.bits.digits_bits.Given as goal

abbrev pub invariant-loop-digit : goal.invariant-loop-digit
invariant-loop-digit l = l.bits.items ++ digits_bits l.format (drop l.digit-index l.digits) ≡ digits_bits l.format l.digits
