use Rattle.std.proofs.Common.{◌≡◌, ◌++◌, Some, map, drop}
use Rattle.fsm_io.proofs.codes.some_of.Given as goal

abbrev pub invariant-loop-number : goal.invariant-loop-number
invariant-loop-number l = l.bits.items ++ map Some (drop l.number-index l.numbers) ≡ map Some l.numbers
