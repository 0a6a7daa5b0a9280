-- What follows from the definitions.
use Rattle.std.specs.Prelude.{ℕ, ◌≡◌, ◌<◌, ◌^◌}
use Rattle.std.specs.Fmt.{decimal}
use Rattle.vlsi_base.specs.Number.{IsNumeral, value_of}

-- the decimal digits of a number of 64 bits are 1 to 20, and spell it
abbrev pub NumbersAreReadAgain : Type 0
NumbersAreReadAgain = (n : ℕ) → n < 2 ^ 64 → IsNumeral (decimal n) × (value_of (decimal n) ≡ n)
