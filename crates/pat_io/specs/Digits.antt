-- The bits that digits spell, and the patterns that are written.
use Rattle.std.specs.Prelude.{ℕ, zero, suc, ◌-◌, ◌/◌, ◌%◌, ◌^◌, Bool, nat_eq, nat_lt, List, [], ◌∷◌, ◌++◌, length, map, drop, Option, None, Some, if◌then◌else◌}
use Rattle.vlsi_base.specs.declared.range.Range.{Range}
use Rattle.pat_meaning.specs.declared.patterns.BitRange.{BitRange}
use Rattle.pat_meaning.specs.declared.patterns.Column.{Column}
use Rattle.vlsi_base.specs.declared.radix.Radix.{Radix}
use Rattle.pat_meaning.specs.declared.patterns.Pattern.{Pattern}
use Rattle.pat_meaning.specs.declared.patterns.Patterns.{Patterns}
use Rattle.pat_meaning.specs.declared.patterns.Value.{Value}
use Rattle.pat_meaning.specs.declared.patterns.Value.TheVariants.{Digits, Any}
use Rattle.pat_text.specs.declared.parsed.ParsedColumn.{ParsedColumn}
use Rattle.pat_text.specs.declared.parsed.ParsedValue.{ParsedValue}
use Rattle.pat_text.specs.declared.parsed.ParsedPattern.{ParsedPattern}
use Rattle.pat_text.specs.declared.parsed.PatternFile.{PatternFile}
use Rattle.vlsi_base.specs.Radix.{digit_width}
use Rattle.vlsi_base.specs.Range.{range_span}

-- how many bits a column lists
abbrev pub column_width : Option Range → ℕ
column_width None = 1
column_width (Some r) = range_span r

-- the last k bits of a number, from the left
abbrev pub number_bits : ℕ → ℕ → List Bool
number_bits zero n = []
number_bits (suc k) n = nat_eq (n / 2 ^ k % 2) 1 ∷ number_bits k n

-- what a digit stands for: those of ten and more are letters in lower case
abbrev pub digit_value : ℕ → ℕ
digit_value c = if nat_lt c 58 then c - 48 else c - 87

abbrev pub digits_bits : Radix → List ℕ → List Bool
digits_bits f [] = []
digits_bits f (c ∷ cs) = number_bits (digit_width f) (digit_value c) ++ digits_bits f cs

-- how many of them are more than the column has: the first ones
abbrev pub unused : ParsedColumn → List ℕ → ℕ
unused c digits = length (digits_bits c.format digits) - column_width c.range

abbrev pub column_bits : ParsedColumn → List ℕ → List Bool
column_bits c digits = drop (unused c digits) (digits_bits c.format digits)

-- ---- the patterns

abbrev pub bit_range : Option Range → Option BitRange
bit_range None = None
bit_range (Some r) = Some (record { left = r.left; right = r.right })

abbrev pub column_of : ParsedColumn → Column
column_of c = record { name = c.name; dir = c.dir; range = bit_range c.range; format = c.format }

abbrev pub value_for : ParsedColumn → Option (List ℕ) → Value
value_for c None = Any
value_for c (Some digits) = Digits (column_bits c digits)

abbrev pub values_for : List ParsedColumn → List ParsedValue → List Value
values_for [] vs = []
values_for (c ∷ cs) [] = []
values_for (c ∷ cs) (v ∷ vs) = value_for c v.digits ∷ values_for cs vs

abbrev pub pattern_for : List ParsedColumn → ParsedPattern → Pattern
pattern_for columns p = record { time = p.time; label = p.label; values = values_for columns p.values }

abbrev pub patterns_for : PatternFile → Patterns
patterns_for parsed = record { columns = map column_of parsed.columns; patterns = map (pattern_for parsed.columns) parsed.patterns }
