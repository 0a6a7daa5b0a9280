use Rattle.std.proofs.Common.{◌≡◌, ◌<◌, ◌-◌, ◌^◌, drop, min}
use Rattle.vlsi_base.specs.Number.{value_of, value_from}
use Rattle.ap_io.proofs.numbers.saturating_value.Given as goal

-- what the digits so far and the others come to
abbrev pub invariant-loop-digit : goal.invariant-loop-digit
invariant-loop-digit l =
    (l.value < 2 ^ 64) × (min (value_from l.value (drop l.digit-index l.digits)) (2 ^ 64 - 1) ≡ min (value_of l.digits) (2 ^ 64 - 1))
