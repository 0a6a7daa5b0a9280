-- What some assignments do to the set of driven bits.
use Rattle.std.specs.Prelude.{◌≡◌, ℕ, ◌||◌, List, ◌++◌, false, filter, option_map, Option, None, Some, MatchOption, if◌then◌else◌}
use Rattle.std.specs.BTreeSet.{BTreeSet}
use Rattle.vlsi_base.specs.declared.name.Name.{Name}
use Rattle.vlsi_base.specs.declared.range.Range.{Range}
use Rattle.source_checks.specs.declared.symbol_table.Symbol.{Symbol}
use Rattle.source_checks.specs.declared.drivers.NameFault.{NameFault}
use Rattle.source_checks.specs.Symbols.{find, names_in}
use Rattle.source_checks.specs.Formula.{names_of_found}
use Rattle.source_checks.specs.Drivers.{Driver, needs_driver, is_among, counted_names, first_second_driver, all_driven}
use Rattle.source_checks.specs.Known.{position_of}
use Rattle.source_checks.specs.Marks.{has}
use Rattle.source_checks.specs.Codes.{Tied, name_at, codes_in, least_code, same_bool}

-- no bit of these drivers was driven before, or twice among them: the search goes on behind them with more names
pub record Goes (known : List Symbol) (new : BTreeSet (ℕ × ℕ)) (driven : List Name) (ds : List Driver) : Type 0 where
  pub after : List Name
  pub tied : Tied known new after
  pub goes : (rest : List Driver) → first_second_driver driven (ds ++ rest) ≡ first_second_driver after rest
  pub members : (n : Name) → is_among after n ≡ (is_among (all_driven ds) n || is_among driven n)

-- the fault is the first among these drivers, whatever was driven before; and where there is none, the new set has their bits
abbrev pub Drives : List Symbol → BTreeSet (ℕ × ℕ) → BTreeSet (ℕ × ℕ) → List Driver → Option NameFault → Type 0
Drives known old new ds found =
    (driven : List Name) → Tied known old driven
    → MatchOption found (Goes known new driven ds) (λ f. (rest : List Driver) → first_second_driver driven (ds ++ rest) ≡ Some f)

-- a name that counts: its place, and the range of its declaration
pub record Counts (known : List Symbol) (text : List ℕ) (place : ℕ) (range : Option Range) : Type 0 where
  pub at : position_of known text ≡ Some place
  pub bits : names_of_found (find known text) ≡ names_in text range
  pub all : (names : List Name) → counted_names (find known text) names ≡ names

abbrev pub fault_of : ℕ → Name → NameFault
fault_of line n = record { line = line; name = n }

-- the fault of a declared name by the set of driven bits
abbrev pub undriven_of : BTreeSet (ℕ × ℕ) → ℕ → Symbol → Option NameFault
undriven_of marks place s =
    if needs_driver s.role
    then option_map (λ code. fault_of s.line (name_at s.text code)) (least_code (filter (λ code. same_bool false (has marks (place, code))) (codes_in s.range)))
    else None
