-- Words of pattern files that mean something by their place, and digits.
use Rattle.std.specs.Prelude.{ℕ, ◌==◌, ◌||◌, ◌&&◌, Bool, nat_le, bytes_eq, List, [], codes, Option, None, Some, if◌then◌else◌}
use Rattle.vlsi_base.specs.declared.radix.Radix.{Radix}
use Rattle.vlsi_base.specs.declared.radix.Radix.TheVariants.{Binary, Octal, Hexadecimal}
use Rattle.pat_meaning.specs.declared.patterns.TimeUnit.{TimeUnit}
use Rattle.pat_meaning.specs.declared.patterns.TimeUnit.TheVariants as unit
use Rattle.vhdl_token.specs.Keyword.{keyword_text}
use Rattle.vhdl_token.specs.declared.token.Token.{Token}
use Rattle.vhdl_token.specs.declared.token.Token.TheVariants as token
use Rattle.vhdl_token.specs.declared.token.PlacedToken.{PlacedToken}

abbrev pub text_in : Token → List ℕ
text_in (token.Identifier name) = name
text_in (token.Keyword word) = keyword_text word
text_in (token.Digits digits) = digits
text_in _ = []

-- the text of a word or of digits
abbrev pub text_of : PlacedToken → List ℕ
text_of t = text_in t.token

-- whether a range falls, by its word
abbrev pub direction_named : List ℕ → Option Bool
direction_named text =
    if bytes_eq text (codes "downto") then Some Bool.true else (if bytes_eq text (codes "to") then Some Bool.false else None)

abbrev pub format_named : List ℕ → Option Radix
format_named text =
    if bytes_eq text (codes "b") then Some Binary
    else (if bytes_eq text (codes "o") then Some Octal
    else (if bytes_eq text (codes "x") then Some Hexadecimal else None))

abbrev pub unit_named : List ℕ → Option TimeUnit
unit_named text =
    if bytes_eq text (codes "fs") then Some unit.Femtosecond
    else (if bytes_eq text (codes "ps") then Some unit.Picosecond
    else (if bytes_eq text (codes "ns") then Some unit.Nanosecond
    else (if bytes_eq text (codes "us") then Some unit.Microsecond
    else (if bytes_eq text (codes "ms") then Some unit.Millisecond else None))))

-- a digit of a format, a letter in lower case
abbrev pub is_digit : Radix → ℕ → Bool
is_digit Binary c = c == 48 || c == 49
is_digit Octal c = nat_le 48 c && nat_le c 55
is_digit Hexadecimal c = (nat_le 48 c && nat_le c 57) || (nat_le 97 c && nat_le c 102)
