-- Which bits are driven: each by exactly one assignment.
use Rattle.std.specs.Prelude.{ℕ, Bool, true, false, not, ◌||◌, List, [], ◌∷◌, ◌++◌, filter, Option, None, Some, if◌then◌else◌}
use Rattle.std.specs.Ordering.{is_lt}
use Rattle.vlsi_base.specs.declared.name.Name.{Name}
use Rattle.vlsi_base.specs.Name.{name_cmp}
use Rattle.machine_core.specs.Named.{is_same_name}
use Rattle.source_checks.specs.declared.statement.Selection.{Selection}
use Rattle.source_checks.specs.declared.statement.Selection.TheVariants as selection
use Rattle.source_checks.specs.declared.statement.Target.{Target}
use Rattle.source_checks.specs.declared.statement.Assignment.{Assignment}
use Rattle.source_checks.specs.declared.statement.Statement.{Statement}
use Rattle.source_checks.specs.declared.statement.Statement.TheVariants as statement
use Rattle.source_checks.specs.declared.statement.DesignFile.{DesignFile}
use Rattle.source_checks.specs.Symbols.{symbols, find, symbol_names, names_in, bit_name}
use Rattle.source_checks.specs.declared.symbol_table.Symbol.{Symbol}
use Rattle.source_checks.specs.Formula.{names_of_found}
use Rattle.source_checks.specs.Places.{in_assignments, in_statements}
use Rattle.source_checks.specs.declared.symbol_table.Role.{Role}
use Rattle.source_checks.specs.declared.drivers.NameFault.{NameFault}
use Rattle.source_checks.specs.declared.symbol_table.Role.TheVariants as role

abbrev pub is_among : List Name → Name → Bool
is_among [] n = false
is_among (m ∷ names) n = is_same_name m n || is_among names n

-- outputs, inner signals and registers need a driver
abbrev pub needs_driver : Role → Bool
needs_driver role.Input = false
needs_driver role.Output = true
needs_driver role.Both = false
needs_driver role.Inner = true
needs_driver role.Register = true

-- the bits that a target drives, from the left
abbrev pub target_names : List Symbol → Target → List Name
target_names known t = by t.selection where
  by : Selection → List Name
  by selection.Whole = names_of_found (find known t.name)
  by (selection.Bit k) = bit_name t.name k ∷ []
  by (selection.Bits r) = names_in t.name (Some r)

-- the lesser of two names
abbrev pub lesser : Name → Option Name → Name
lesser n None = n
lesser n (Some m) = if is_lt (name_cmp m n) then m else n

-- the least of the names
abbrev pub least : List Name → Option Name
least [] = None
least (n ∷ names) = Some (lesser n (least names))

-- a target of a name that needs no driver, an input above all, counts as none: it is unsupported
abbrev pub counted_names : Option Symbol → List Name → List Name
counted_names None names = []
counted_names (Some s) names = if needs_driver s.role then names else []

-- an assignment's target, with the bits that it drives
pub record Driver : Type 0 where
  pub line : ℕ
  pub names : List Name

abbrev pub driver_at : List Symbol → Target → Driver
driver_at known t = record { line = t.line; names = counted_names (find known t.name) (target_names known t) }

abbrev pub driver_of : List Symbol → Assignment → List Driver
driver_of known a = driver_at known a.target ∷ []

abbrev pub statement_drivers : List Symbol → Statement → List Driver
statement_drivers known (statement.Assert e) = []
statement_drivers known (statement.Assign a) = driver_of known a
statement_drivers known (statement.Block b) = in_assignments (driver_of known) b.assignments

-- all assignments, in file order
abbrev pub drivers : DesignFile → List Driver
drivers design = in_statements (statement_drivers (symbols design)) design.statements

abbrev pub fault_at : ℕ → Option Name → Option NameFault → Option NameFault
fault_at line None later = later
fault_at line (Some n) later = Some (record { line = line; name = n })

-- the first assignment that drives a bit which an earlier one drives, with the least such bit
abbrev pub first_second_driver : List Name → List Driver → Option NameFault
first_second_driver driven [] = None
first_second_driver driven (d ∷ rest) = fault_at d.line (least (filter (is_among driven) d.names)) (first_second_driver (d.names ++ driven) rest)

abbrev pub all_driven : List Driver → List Name
all_driven [] = []
all_driven (d ∷ rest) = d.names ++ all_driven rest

-- the first declared name that has a bit without a driver, with the least such bit
abbrev pub first_undriven : List Name → List Symbol → Option NameFault
first_undriven driven [] = None
first_undriven driven (s ∷ rest) =
    if needs_driver s.role
    then fault_at s.line (least (filter (λ n. not (is_among driven n)) (symbol_names s))) (first_undriven driven rest)
    else first_undriven driven rest
