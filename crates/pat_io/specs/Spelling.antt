-- The one spelling of patterns.
use Rattle.std.specs.Prelude.{ℕ, zero, suc, ◌+◌, ◌-◌, ◌*◌, ◌/◌, nat_le, nat_lt, Bool, true, false, List, [], ◌∷◌, ◌++◌, length, take, drop, Option, None, Some, codes, if◌then◌else◌}
use Rattle.std.specs.Fmt.{decimal}
use Rattle.vlsi_base.specs.declared.name.Dir.{Dir}
use Rattle.vlsi_base.specs.declared.name.Dir.TheVariants.{In, Out}
use Rattle.pat_meaning.specs.declared.patterns.BitRange.{BitRange}
use Rattle.pat_meaning.specs.declared.patterns.Column.{Column}
use Rattle.vlsi_base.specs.Radix.{digit_width}
use Rattle.vlsi_base.specs.declared.radix.Radix.{Radix}
use Rattle.vlsi_base.specs.declared.radix.Radix.TheVariants.{Binary, Octal, Hexadecimal}
use Rattle.pat_meaning.specs.declared.patterns.Pattern.{Pattern}
use Rattle.pat_meaning.specs.declared.patterns.Patterns.{Patterns}
use Rattle.pat_meaning.specs.declared.patterns.Time.{Time}
use Rattle.pat_meaning.specs.declared.patterns.TimeUnit.{TimeUnit}
use Rattle.pat_meaning.specs.declared.patterns.TimeUnit.TheVariants as unit
use Rattle.pat_meaning.specs.declared.patterns.Value.{Value}
use Rattle.pat_meaning.specs.declared.patterns.Value.TheVariants.{Digits, Any}

-- texts one after another
abbrev pub together : List (List ℕ) → List ℕ
together [] = []
together (t ∷ ts) = t ++ together ts

-- the end of an item: a semicolon and the end of the line
abbrev pub item_end : List ℕ
item_end = 59 ∷ 10 ∷ []

-- ---- columns

-- falling, and for a single bit too, or else rising
abbrev pub word_of : BitRange → List ℕ
word_of r = if nat_le r.right r.left then codes " downto " else codes " to "

abbrev pub range_text : Option BitRange → List ℕ
range_text None = []
range_text (Some r) = together (codes " (" ∷ decimal r.left ∷ word_of r ∷ decimal r.right ∷ codes ")" ∷ [])

-- binary is what stands where no format is written
abbrev pub format_text : Radix → List ℕ
format_text Binary = []
format_text Octal = codes " O"
format_text Hexadecimal = codes " X"

abbrev pub dir_text : Dir → List ℕ
dir_text In = codes "in "
dir_text Out = codes "out "

abbrev pub column_text : Column → List ℕ
column_text c = together (dir_text c.dir ∷ c.name ∷ range_text c.range ∷ format_text c.format ∷ item_end ∷ [])

abbrev pub columns_text : List Column → List ℕ
columns_text [] = []
columns_text (c ∷ cs) = column_text c ++ columns_text cs

-- ---- values

-- the number that bits spell behind others that spell n
abbrev pub number_from : ℕ → List Bool → ℕ
number_from n [] = n
number_from n (b ∷ bits) = number_from (2 * n + (if b then 1 else 0)) bits

-- a digit of up to four bits, with letters in lower case
abbrev pub digit_of : ℕ → ℕ
digit_of n = if nat_lt n 10 then 48 + n else 87 + n

-- so many digits of k bits: the first has the bits in front of the others
abbrev pub digits_text : ℕ → ℕ → List Bool → List ℕ
digits_text k zero bits = []
digits_text k (suc n) bits = let front = length bits - k * n in digit_of (number_from 0 (take front bits)) ∷ digits_text k n (drop front bits)

-- as many digits as hold the bits
abbrev pub bits_text : Radix → List Bool → List ℕ
bits_text f bits = digits_text (digit_width f) ((length bits + (digit_width f - 1)) / digit_width f) bits

-- what an output's value begins with
abbrev pub mark_text : Dir → List ℕ
mark_text In = []
mark_text Out = codes "?"

abbrev pub value_text : Column → Value → List ℕ
value_text c (Digits bits) = mark_text c.dir ++ bits_text c.format bits
value_text c Any = codes "?*"

-- a blank and the value, for each column
abbrev pub values_text : List Column → List Value → List ℕ
values_text [] values = []
values_text (c ∷ cs) [] = []
values_text (c ∷ cs) (v ∷ values) = (codes " " ++ value_text c v) ++ values_text cs values

-- ---- patterns

abbrev pub unit_text : TimeUnit → List ℕ
unit_text unit.Femtosecond = codes " fs> "
unit_text unit.Picosecond = codes " ps> "
unit_text unit.Nanosecond = codes " ns> "
unit_text unit.Microsecond = codes " us> "
unit_text unit.Millisecond = codes " ms> "

abbrev pub sign_text : Bool → List ℕ
sign_text true = codes "+ "
sign_text false = []

abbrev pub time_text : Time → List ℕ
time_text t = together (codes "< " ∷ sign_text t.is_added ∷ decimal t.number ∷ unit_text t.unit ∷ [])

abbrev pub label_text : Option (List ℕ) → List ℕ
label_text None = []
label_text (Some label) = label ++ codes " "

abbrev pub pattern_text : List Column → Pattern → List ℕ
pattern_text columns p = together (time_text p.time ∷ label_text p.label ∷ codes ":" ∷ values_text columns p.values ∷ item_end ∷ [])

abbrev pub patterns_text : List Column → List Pattern → List ℕ
patterns_text columns [] = []
patterns_text columns (p ∷ rest) = pattern_text columns p ++ patterns_text columns rest

abbrev pub begin_text : List ℕ
begin_text = codes "begin" ++ 10 ∷ []

-- the columns, each on its line, and the patterns between `begin` and `end`
unfoldable pub text_of : Patterns → List ℕ
text_of p = together (columns_text p.columns ∷ begin_text ∷ patterns_text p.columns p.patterns ∷ (codes "end" ++ item_end) ∷ [])
