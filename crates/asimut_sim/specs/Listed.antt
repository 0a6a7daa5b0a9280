-- What a pattern wants of each listed bit, and where an observed bit isn't what is wanted.
use Rattle.std.specs.Prelude.{ℕ, Bool, false, not, List, [], ◌∷◌, ◌++◌, map, length, take, drop, replicate, Option, None, Some, if◌then◌else◌}
use Rattle.vlsi_base.specs.declared.name.Dir.{Dir}
use Rattle.vlsi_base.specs.declared.name.Dir.TheVariants.{In, Out}
use Rattle.pat_meaning.specs.declared.patterns.Column.{Column}
use Rattle.pat_meaning.specs.declared.patterns.Value.{Value}
use Rattle.pat_meaning.specs.declared.patterns.Value.TheVariants.{Digits, Any}
use Rattle.pat_meaning.specs.Columns.{column_names}
use Rattle.asimut_sim.specs.Places.{one_on}

-- the bits that are wanted of a column: those of an output that has digits
abbrev pub wanted_value : Dir → ℕ → Value → List (Option Bool)
wanted_value In n v = replicate n None
wanted_value Out n Any = replicate n None
wanted_value Out n (Digits bits) = map (λ b. Some b) bits

abbrev pub wanted_bits : List Column → List Value → List (Option Bool)
wanted_bits [] values = []
wanted_bits (c ∷ cs) [] = []
wanted_bits (c ∷ cs) (v ∷ values) = wanted_value c.dir (length (column_names c)) v ++ wanted_bits cs values

-- a bit is wanted, and another is seen
abbrev pub is_other : Option Bool → Bool → Bool
is_other None seen = false
is_other (Some b) seen = if b then not seen else seen

-- the first place where another bit is seen than is wanted
abbrev pub other_place : List (Option Bool) → List Bool → Option ℕ
other_place [] seen = None
other_place (b ∷ wanted) [] = None
other_place (b ∷ wanted) (s ∷ seen) = if is_other b s then Some 0 else one_on (other_place wanted seen)

-- an output has the bits that are seen, an input keeps its own
abbrev pub shown_value : Dir → Value → List Bool → Value
shown_value In v seen = v
shown_value Out v seen = Digits seen

-- each column takes its share of the bits that are seen
abbrev pub shown : List Column → List Value → List Bool → List Value
shown [] values seen = []
shown (c ∷ cs) [] seen = []
shown (c ∷ cs) (v ∷ values) seen =
    shown_value c.dir v (take (length (column_names c)) seen) ∷ shown cs values (drop (length (column_names c)) seen)
