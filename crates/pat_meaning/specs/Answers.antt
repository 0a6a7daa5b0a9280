-- Patterns that are for a machine's ports, and what a simulation answers.
use Rattle.std.specs.Prelude.{◌≡◌, ℕ, ◌⊎◌, Bool, List, None, Some, codes}
use Rattle.std.specs.List.{All}
use Rattle.vlsi_base.specs.declared.name.Name.{Name}
use Rattle.vlsi_base.specs.declared.name.Port.{Port}
use Rattle.vlsi_base.specs.declared.name.Dir.TheVariants.{In as Inward}
use Rattle.machine_core.specs.Machine.{Machine}
use Rattle.machine_core.specs.Order.{In, AllDifferent, IsOrdered}
use Rattle.pat_meaning.specs.declared.patterns.Column.{Column}
use Rattle.pat_meaning.specs.declared.patterns.Pattern.{Pattern}
use Rattle.pat_meaning.specs.declared.patterns.Patterns.{Patterns}
use Rattle.pat_meaning.specs.Columns.{column_names, listed, FitsColumns}
use Rattle.pat_meaning.specs.Circuit.{Circuit, of_machine}
use Rattle.pat_meaning.specs.Simulation.{IsObserved, Compared, compared, first_difference, filled}

-- vdd or vss, as an input of one bit, whether or not it is a port
pub record IsSupplyColumn (c : Column) : Type 0 where
  pub name : (c.name ≡ codes "vdd") ⊎ (c.name ≡ codes "vss")
  pub dir : c.dir ≡ Inward
  pub range : c.range ≡ None

-- each bit of the column is a port bit of its direction
abbrev pub IsOfPorts : List Port → Column → Type 0
IsOfPorts ports c = All (λ name. In (record { name = name; dir = c.dir }) ports) (column_names c)

-- The patterns are for these port bits: each column lists bits of ports, or is vdd or vss; no bit is listed twice;
-- and each pattern has a value that fits for each column.
pub record AreFor (ports : List Port) (p : Patterns) : Type 0 where
  pub columns : All (λ c. IsSupplyColumn c ⊎ IsOfPorts ports c) p.columns
  pub different : AllDifferent (listed p.columns)
  pub values : All (λ q. FitsColumns p.columns q.values) p.patterns

-- The circuit gives what the patterns expect, and `out` are the patterns with every output filled in.
pub record IsFilledBy (c : Circuit) (p out : Patterns) : Type 0 where
  pub observed : List c.Valuation
  pub are_observed : IsObserved c p.columns p.patterns observed
  pub none_differs : first_difference (compared c p.columns 0 p.patterns observed) ≡ None
  pub answer : out ≡ record { columns = p.columns; patterns = filled c p.columns p.patterns observed }

-- The first bit that isn't what the patterns expect is this one of this pattern, counted from 0.
pub record DiffersOn (c : Circuit) (p : Patterns) (number : ℕ) (bit : Name) : Type 0 where
  pub observed : List c.Valuation
  pub are_observed : IsObserved c p.columns p.patterns observed
  pub at : Compared
  pub first : first_difference (compared c p.columns 0 p.patterns observed) ≡ Some at
  pub pattern : at.pattern ≡ number
  pub name : at.name ≡ bit

-- the same on a machine
abbrev pub IsFilled : Machine → Patterns → Patterns → Type 0
IsFilled m p out = IsFilledBy (of_machine m) p out

abbrev pub DiffersAt : Machine → Patterns → ℕ → Name → Type 0
DiffersAt m p number bit = DiffersOn (of_machine m) p number bit

-- For each machine and any patterns there is exactly one list of observed valuations.
abbrev pub ObservesOnce : Type 0
ObservesOnce =
    (m : Machine) (columns : List Column) (patterns : List Pattern) → IsOrdered m
    → (ws : List (List Bool)) × IsObserved (of_machine m) columns patterns ws × ((other : List (List Bool)) → IsObserved (of_machine m) columns patterns other → other ≡ ws)
