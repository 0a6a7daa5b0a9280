-- Which bits a pattern file lists, and what a pattern gives them.
use Rattle.std.specs.Prelude.{◌≡◌, ℕ, ◌+◌, ◌-◌, Bool, false, nat_le, List, [], ◌∷◌, ◌++◌, length, replicate, Option, None, Some, if◌then◌else◌}
use Rattle.vlsi_base.specs.declared.name.Name.{Name}
use Rattle.vlsi_base.specs.declared.name.Dir.TheVariants.{Out}
use Rattle.vlsi_base.specs.Range.{rising, falling}
use Rattle.pat_meaning.specs.declared.patterns.BitRange.{BitRange}
use Rattle.pat_meaning.specs.declared.patterns.Column.{Column}
use Rattle.pat_meaning.specs.declared.patterns.Value.{Value}
use Rattle.pat_meaning.specs.declared.patterns.Value.TheVariants.{Digits, Any}

-- the numbers of the bits from the left one to the right one
abbrev pub range_bits : BitRange → List ℕ
range_bits r = if nat_le r.left r.right then rising r.left (r.right - r.left + 1) else falling r.right (r.left - r.right + 1)

abbrev pub bits_named : List ℕ → List ℕ → List Name
bits_named text [] = []
bits_named text (k ∷ ks) = record { text = text; bit = Some k } ∷ bits_named text ks

abbrev pub names_of_range : List ℕ → Option BitRange → List Name
names_of_range text None = record { text = text; bit = None } ∷ []
names_of_range text (Some r) = bits_named text (range_bits r)

-- the bits that a column lists, from the left
abbrev pub column_names : Column → List Name
column_names c = names_of_range c.name c.range

-- all bits that are listed
abbrev pub listed : List Column → List Name
listed [] = []
listed (c ∷ cs) = column_names c ++ listed cs

-- the bits that a value gives a column; where it gives none they stand as 0
abbrev pub value_bits : Column → Value → List Bool
value_bits c (Digits bits) = bits
value_bits c Any = replicate (length (column_names c)) false

-- the bits that a pattern gives to all columns
abbrev pub given_bits : List Column → List Value → List Bool
given_bits [] values = []
given_bits (c ∷ cs) [] = []
given_bits (c ∷ cs) (v ∷ values) = value_bits c v ++ given_bits cs values

-- a value fits its column: it has as many bits, and an input has some
abbrev pub Fits : Column → Value → Type 0
Fits c (Digits bits) = length bits ≡ length (column_names c)
Fits c Any = c.dir ≡ Out

-- a pattern has a value that fits for each column
abbrev pub FitsColumns : List Column → List Value → Type 0
FitsColumns [] [] = Unit {0}
FitsColumns [] (v ∷ values) = ⊥
FitsColumns (c ∷ cs) [] = ⊥
FitsColumns (c ∷ cs) (v ∷ values) = Fits c v × FitsColumns cs values
