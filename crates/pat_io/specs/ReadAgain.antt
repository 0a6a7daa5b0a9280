-- What is written of patterns is read as these patterns: the part of it that is about what is written, and not how it is
-- spelled.
use Rattle.std.specs.Prelude.{◌≡◌, ℕ, Bool, true, false, nat_le, List, [], ◌∷◌, map, length, Option, Some, None}
use Rattle.std.specs.List.{All}
use Rattle.vlsi_base.specs.declared.range.Range.{Range}
use Rattle.vlsi_base.specs.declared.name.Port.{Port}
use Rattle.pat_meaning.specs.declared.patterns.BitRange.{BitRange}
use Rattle.pat_meaning.specs.declared.patterns.Column.{Column}
use Rattle.pat_meaning.specs.declared.patterns.Pattern.{Pattern}
use Rattle.pat_meaning.specs.declared.patterns.Patterns.{Patterns}
use Rattle.pat_meaning.specs.declared.patterns.Value.{Value}
use Rattle.pat_meaning.specs.declared.patterns.Value.TheVariants.{Digits, Any}
use Rattle.pat_meaning.specs.Answers.{AreFor}
use Rattle.pat_text.specs.declared.parsed.ParsedColumn.{ParsedColumn}
use Rattle.pat_text.specs.declared.parsed.ParsedValue.{ParsedValue}
use Rattle.pat_text.specs.declared.parsed.ParsedPattern.{ParsedPattern}
use Rattle.pat_text.specs.declared.parsed.PatternFile.{PatternFile}
use Rattle.pat_io.specs.Spelling.{bits_text}
use Rattle.vlsi_base.specs.Name.{is_supply}
use Rattle.pat_io.specs.Digits.{column_width, column_bits, patterns_for}
use Rattle.pat_io.specs.Fitting.{value_fits, time_faults}
use Rattle.pat_io.specs.PatternText.{fault_in}

-- The digits that spell as many bits as a column has fit the column, and give it those bits.
abbrev pub DigitsReadAgain : Type 0
DigitsReadAgain =
    (c : ParsedColumn) (bits : List Bool) → length bits ≡ column_width c.range
    → (value_fits c (Some (bits_text c.format bits)) ≡ true) × (column_bits c (bits_text c.format bits) ≡ bits)

-- ---- what is written of patterns, all on this line

abbrev pub written_range : ℕ → Option BitRange → Option Range
written_range line None = None
written_range line (Some r) = Some (record { left = r.left; falls = nat_le r.right r.left; right = r.right; line = line })

abbrev pub written_column : ℕ → Column → ParsedColumn
written_column line c = record { name = c.name; line = line; dir = c.dir; range = written_range line c.range; format = c.format }

abbrev pub written_digits : Column → Value → Option (List ℕ)
written_digits c (Digits bits) = Some (bits_text c.format bits)
written_digits c Any = None

abbrev pub written_values : ℕ → List Column → List Value → List ParsedValue
written_values line [] vs = []
written_values line (c ∷ cs) [] = []
written_values line (c ∷ cs) (v ∷ vs) = record { line = line; digits = written_digits c v } ∷ written_values line cs vs

abbrev pub written_pattern : ℕ → List Column → Pattern → ParsedPattern
written_pattern line cs q = record { line = line; time = q.time; label = q.label; values = written_values line cs q.values }

abbrev pub written : ℕ → Patterns → PatternFile
written line p = record { columns = map (written_column line) p.columns; patterns = map (written_pattern line p.columns) p.patterns }

-- Patterns for ports, none of which is a supply, whose times never fall, are written without a fault, and mean themselves.
abbrev pub WrittenMeansItself : Type 0
WrittenMeansItself =
    (ports : List Port) (p : Patterns) (line : ℕ) → AreFor ports p → All (λ port. is_supply port.name.text ≡ false) ports → time_faults 0 (written line p).patterns ≡ []
    → (fault_in ports (written line p) ≡ None) × (patterns_for (written line p) ≡ p)
