use Rattle.std.proofs.Common.{◌≡◌, drop}
use Rattle.vlsi_base.specs.Number.{value_of, value_from}
use Rattle.vlsi_base.proofs.number.spelled.Given as goal

abbrev pub invariant-loop-digit : goal.invariant-loop-digit
invariant-loop-digit l = value_from l.value (drop l.digit-index l.text) ≡ value_of l.text
