use Rattle.std.proofs.Common.{◌≡◌, ◌++◌, drop}
use Rattle.scan_checks.specs.Refused.{names_of}
use Rattle.scan_checks.proofs.order.names_of.Given as goal

abbrev pub invariant-loop-register : goal.invariant-loop-register
invariant-loop-register l = l.names.items ++ names_of (drop l.register-index l.registers) ≡ names_of l.registers
