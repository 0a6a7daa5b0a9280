-- What patterns come to on a circuit. The clock is the port by which it loads. In each pattern the inputs settle first;
-- where the clock was 0 before and is 1 now, the circuit loads and all settles again; then the outputs are observed. Before
-- the first pattern the clock counts as 0, and an input that isn't listed is 0.
use Rattle.std.specs.Prelude.{◌≡◌, ℕ, ◌+◌, Bool, true, false, not, ◌&&◌, List, [], ◌∷◌, ◌++◌, map, Option, None, Some, if◌then◌else◌}
use Rattle.vlsi_base.specs.declared.name.Name.{Name}
use Rattle.vlsi_base.specs.declared.name.Dir.{Dir}
use Rattle.vlsi_base.specs.declared.name.Dir.TheVariants.{In, Out}
use Rattle.machine_core.specs.Named.{value_at, values_at}
use Rattle.pat_meaning.specs.declared.patterns.Column.{Column}
use Rattle.pat_meaning.specs.declared.patterns.Value.{Value}
use Rattle.pat_meaning.specs.declared.patterns.Value.TheVariants.{Digits, Any}
use Rattle.pat_meaning.specs.declared.patterns.Pattern.{Pattern}
use Rattle.pat_meaning.specs.Columns.{listed, given_bits, column_names}
use Rattle.pat_meaning.specs.Circuit.{Circuit}

-- what a pattern gives these inputs
abbrev pub vector : List Name → List Column → List Value → List Bool
vector inputs columns values = values_at (listed columns) (given_bits columns values) inputs

-- what a pattern gives the clock; without a clock it stays 0
abbrev pub clock_bit : Option Name → List Column → List Value → Bool
clock_bit None columns values = false
clock_bit (Some name) columns values = value_at (listed columns) (given_bits columns values) name

-- the clock rises
abbrev pub rises : Bool → Bool → Bool
rises before now = not before && now

-- One pattern with the input vector i: from the contents s, w is observed, and t are the contents after it.
abbrev pub Takes : Bool → (c : Circuit) → List Bool → c.State → c.Valuation → c.State → Type 0
Takes false c i s w t = c.settles s i w × (t ≡ s)
Takes true c i s w t = (first : c.Valuation) × c.settles s i first × (t ≡ c.next first) × c.settles t i w

-- The valuations that are observed, one for each pattern, from the contents s and the clock's value before.
abbrev pub Observes : (c : Circuit) → List Column → c.State → Bool → List Pattern → List c.Valuation → Type 0
Observes c columns s before [] ws = ws ≡ []
Observes c columns s before (p ∷ rest) ws =
    (w : c.Valuation) × (t : c.State) × Takes (rises before (clock_bit c.clock columns p.values)) c (vector c.inputs columns p.values) s w t
    × ((more : List c.Valuation) × (ws ≡ w ∷ more) × Observes c columns t (clock_bit c.clock columns p.values) rest more)

abbrev pub IsObserved : (c : Circuit) → List Column → List Pattern → List c.Valuation → Type 0
IsObserved c columns patterns ws = Observes c columns c.start false patterns ws

-- a bit of an output that a pattern compares: the pattern's number, the bit's name, what is expected and what is observed
pub record Compared : Type 0 where
  pub pattern : ℕ
  pub name : Name
  pub expected : Bool
  pub observed : Bool

abbrev pub compared_bits : (Name → Bool) → ℕ → List Name → List Bool → List Compared
compared_bits value n [] bits = []
compared_bits value n (name ∷ names) [] = []
compared_bits value n (name ∷ names) (b ∷ bits) =
    record { pattern = n; name = name; expected = b; observed = value name } ∷ compared_bits value n names bits

abbrev pub compared_value : (Name → Bool) → ℕ → Dir → List Name → Value → List Compared
compared_value value n Out names (Digits bits) = compared_bits value n names bits
compared_value value n Out names Any = []
compared_value value n In names v = []

abbrev pub compared_values : (Name → Bool) → ℕ → List Column → List Value → List Compared
compared_values value n [] values = []
compared_values value n (c ∷ cs) [] = []
compared_values value n (c ∷ cs) (v ∷ values) = compared_value value n c.dir (column_names c) v ++ compared_values value n cs values

-- all bits that the patterns compare, by pattern, then by column, then from the left; n is the number of the first pattern
abbrev pub compared : (c : Circuit) → List Column → ℕ → List Pattern → List c.Valuation → List Compared
compared c columns n [] ws = []
compared c columns n (p ∷ rest) [] = []
compared c columns n (p ∷ rest) (w ∷ ws) = compared_values (c.value w) n columns p.values ++ compared c columns (n + 1) rest ws

-- a bit that isn't what was expected
abbrev pub is_different : Compared → Bool
is_different c = if c.expected then not c.observed else c.observed

-- an output's value with its bits filled in
abbrev pub filled_value : (Name → Bool) → Column → Value → Value
filled_value value c v = by c.dir where
  by : Dir → Value
  by In = v
  by Out = Digits (map value (column_names c))

abbrev pub filled_values : (Name → Bool) → List Column → List Value → List Value
filled_values value [] values = []
filled_values value (c ∷ cs) [] = []
filled_values value (c ∷ cs) (v ∷ values) = filled_value value c v ∷ filled_values value cs values

-- the patterns with every output filled in; times, labels and inputs stay
abbrev pub filled : (c : Circuit) → List Column → List Pattern → List c.Valuation → List Pattern
filled c columns [] ws = []
filled c columns (p ∷ rest) [] = []
filled c columns (p ∷ rest) (w ∷ ws) = record p { values = filled_values (c.value w) columns p.values } ∷ filled c columns rest ws

-- the first bit that isn't what was expected, where there is one
abbrev pub first_difference : List Compared → Option Compared
first_difference [] = None
first_difference (c ∷ cs) = if is_different c then Some c else first_difference cs
