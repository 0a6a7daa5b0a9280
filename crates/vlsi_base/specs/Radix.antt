-- How digits spell bits.
use Rattle.std.specs.Prelude.{ℕ}
use Rattle.vlsi_base.specs.declared.radix.Radix.{Radix}
use Rattle.vlsi_base.specs.declared.radix.Radix.TheVariants.{Binary, Octal, Hexadecimal}

-- how many bits a digit spells
abbrev pub digit_width : Radix → ℕ
digit_width Binary = 1
digit_width Octal = 3
digit_width Hexadecimal = 4
