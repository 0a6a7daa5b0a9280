-- Where widths don't fit and where time goes back, in file order: the lines of the ranges or names, of the values and of the patterns at fault.
use Rattle.std.specs.Prelude.{ℕ, ◌+◌, ◌-◌, ◌*◌, ◌/◌, ◌^◌, Bool, true, false, not, ◌&&◌, ◌||◌, nat_le, nat_eq, List, [], ◌∷◌, ◌++◌, length, take, Option, None, Some, if◌then◌else◌}
use Rattle.std.specs.List.{list_any, list_all}
use Rattle.vlsi_base.specs.declared.name.Name.{Name}
use Rattle.vlsi_base.specs.declared.name.Dir.{Dir}
use Rattle.vlsi_base.specs.declared.name.Port.{Port}
use Rattle.vlsi_base.specs.declared.range.Range.{Range}
use Rattle.machine_core.specs.Named.{is_same_name}
use Rattle.pat_meaning.specs.declared.patterns.Time.{Time}
use Rattle.pat_meaning.specs.declared.patterns.TimeUnit.{TimeUnit}
use Rattle.pat_meaning.specs.declared.patterns.TimeUnit.TheVariants as unit
use Rattle.pat_text.specs.declared.parsed.ParsedColumn.{ParsedColumn}
use Rattle.pat_text.specs.declared.parsed.ParsedValue.{ParsedValue}
use Rattle.pat_text.specs.declared.parsed.ParsedPattern.{ParsedPattern}
use Rattle.pat_text.specs.declared.parsed.PatternFile.{PatternFile}
use Rattle.vlsi_base.specs.Radix.{digit_width}
use Rattle.vlsi_base.specs.Name.{is_supply}
use Rattle.vlsi_base.specs.Range.{rising, is_ordered, least}
use Rattle.pat_io.specs.Known.{is_same_dir, is_supply_input}
use Rattle.pat_io.specs.Digits.{column_width, digits_bits, unused}

abbrev pub if_not : Bool → ℕ → List ℕ
if_not true line = []
if_not false line = line ∷ []

-- ---- columns

abbrev pub is_port : List Port → Dir → Name → Bool
is_port ports d name = list_any (λ p. is_same_name p.name name && is_same_dir p.dir d) ports

-- A vector is listed with a range of bits that it has; a scalar, vdd and vss without one.
abbrev pub column_fits : List Port → ParsedColumn → Bool
column_fits ports c = by c.range where
  by : Option Range → Bool
  by None = is_supply_input c || is_port ports c.dir (record { text = c.name; bit = None })
  by (Some r) =
      not (is_supply c.name) && (is_ordered r
      && list_all (λ k. is_port ports c.dir (record { text = c.name; bit = Some k })) (rising (least r) (column_width (Some r))))

-- a range is at fault at its parenthesis, and a name without one at the name
abbrev pub column_line : ParsedColumn → ℕ
column_line c = by c.range where
  by : Option Range → ℕ
  by None = c.line
  by (Some r) = r.line

abbrev pub column_faults : List Port → List ParsedColumn → List ℕ
column_faults ports [] = []
column_faults ports (c ∷ cs) = if_not (column_fits ports c) (column_line c) ++ column_faults ports cs

-- ---- values

-- as many digits as hold the column's bits, and the bits that are more are 0
abbrev pub value_fits : ParsedColumn → Option (List ℕ) → Bool
value_fits c None = true
value_fits c (Some digits) =
    nat_eq (length digits) ((column_width c.range + (digit_width c.format - 1)) / digit_width c.format)
    && list_all not (take (unused c digits) (digits_bits c.format digits))

abbrev pub value_faults : List ParsedColumn → List ParsedValue → List ℕ
value_faults [] vs = []
value_faults (c ∷ cs) [] = []
value_faults (c ∷ cs) (v ∷ vs) = if_not (value_fits c v.digits) v.line ++ value_faults cs vs

abbrev pub pattern_faults : List ParsedColumn → List ParsedPattern → List ℕ
pattern_faults columns [] = []
pattern_faults columns (p ∷ ps) = value_faults columns p.values ++ pattern_faults columns ps

abbrev pub width_faults : List Port → PatternFile → List ℕ
width_faults ports parsed = column_faults ports parsed.columns ++ pattern_faults parsed.columns parsed.patterns

-- ---- times

-- a unit in femtoseconds
abbrev pub unit_size : TimeUnit → ℕ
unit_size unit.Femtosecond = 1
unit_size unit.Picosecond = 10 ^ 3
unit_size unit.Nanosecond = 10 ^ 6
unit_size unit.Microsecond = 10 ^ 9
unit_size unit.Millisecond = 10 ^ 12

-- the time of a pattern behind one at this time
abbrev pub time_behind : ℕ → Time → ℕ
time_behind before t = (if t.is_added then before else 0) + t.number * unit_size t.unit

-- the patterns behind one at this time that are before the one before them
abbrev pub time_faults : ℕ → List ParsedPattern → List ℕ
time_faults before [] = []
time_faults before (p ∷ ps) = if_not (nat_le before (time_behind before p.time)) p.line ++ time_faults (time_behind before p.time) ps
