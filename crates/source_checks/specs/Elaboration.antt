-- The bits that a text drives, with their formulas, and the machine that it is.
use Rattle.std.specs.Prelude.{◌≡◌, ℕ, List, [], ◌∷◌, ◌++◌, map, Option, None, Some, option_map, IsPermutation, if◌then◌else◌}
use Rattle.vlsi_base.specs.declared.name.Name.{Name}
use Rattle.vlsi_base.specs.declared.name.Port.{Port}
use Rattle.vlsi_base.specs.declared.name.Dir.{Dir}
use Rattle.vlsi_base.specs.declared.name.Dir.TheVariants.{In, Out}
use Rattle.vlsi_base.specs.Tree.{view}
use Rattle.machine_core.specs.Machine.{Machine}
use Rattle.machine_core.specs.Checked.{IsChecked}
use Rattle.source_checks.specs.declared.statement.Assignment.{Assignment}
use Rattle.source_checks.specs.declared.statement.Statement.{Statement}
use Rattle.source_checks.specs.declared.statement.Statement.TheVariants as statement
use Rattle.source_checks.specs.declared.statement.DesignFile.{DesignFile}
use Rattle.vlsi_base.specs.Name.{is_supply}
use Rattle.source_checks.specs.Symbols.{symbols, symbol_names, scalar}
use Rattle.source_checks.specs.declared.symbol_table.Symbol.{Symbol}
use Rattle.source_checks.specs.Formula.{Formula, choice_bits, numbered}
use Rattle.source_checks.specs.Drivers.{target_names}
use Rattle.source_checks.specs.Clock.{clock_text, enable_of}
use Rattle.source_checks.specs.Places.{in_assignments, in_statements}
use Rattle.source_checks.specs.declared.symbol_table.Role.{Role}
use Rattle.source_checks.specs.declared.symbol_table.Role.TheVariants as role

-- a bit with what it has the value of
pub record Definition : Type 0 where
  pub name : Name
  pub formula : Formula

-- a bit of storage with what it loads, and when
pub record Storage : Type 0 where
  pub name : Name
  pub next : Formula
  pub enable : Formula

abbrev pub defined : List Name → List Formula → List Definition
defined [] formulas = []
defined (n ∷ names) [] = []
defined (n ∷ names) (f ∷ formulas) = record { name = n; formula = f } ∷ defined names formulas

abbrev pub assignment_definitions : List Symbol → Assignment → List Definition
assignment_definitions known a = defined (target_names known a.target) (choice_bits known a.choice)

abbrev pub stored : Formula → List Definition → List Storage
stored enable [] = []
stored enable (d ∷ rest) = record { name = d.name; next = d.formula; enable = enable } ∷ stored enable rest

abbrev pub statement_definitions : List Symbol → Statement → List Definition
statement_definitions known (statement.Assert e) = []
statement_definitions known (statement.Assign a) = assignment_definitions known a
statement_definitions known (statement.Block b) = []

abbrev pub statement_storage : List Symbol → Option (List ℕ) → Statement → List Storage
statement_storage known ck (statement.Assert e) = []
statement_storage known ck (statement.Assign a) = []
statement_storage known None (statement.Block b) = []
statement_storage known (Some text) (statement.Block b) = stored (enable_of known text (view b.guard)) (in_assignments (assignment_definitions known) b.assignments)

-- the bits that are driven outside of blocks, in file order
abbrev pub definitions : DesignFile → List Definition
definitions design = in_statements (statement_definitions (symbols design)) design.statements

-- the bits that are driven in blocks, in file order
abbrev pub storage : DesignFile → List Storage
storage design = in_statements (statement_storage (symbols design) (clock_text design)) design.statements

abbrev pub port_of : Dir → Name → Port
port_of dir n = record { name = n; dir = dir }

abbrev pub ports_of_role : Role → List Name → List Port
ports_of_role role.Input names = map (port_of In) names
ports_of_role role.Output names = map (port_of Out) names
ports_of_role role.Both names = []
ports_of_role role.Inner names = []
ports_of_role role.Register names = []

-- the bits of the ports but vdd and vss, in file order
abbrev pub port_bits : List Symbol → List Port
port_bits [] = []
port_bits (s ∷ rest) = (if is_supply s.text then [] else ports_of_role s.role (symbol_names s)) ++ port_bits rest

-- the clock's name
abbrev pub clock_name : DesignFile → Option Name
clock_name design = option_map scalar (clock_text design)

-- The machine that a text is: its ports are those of the entity without vdd and vss, its equations and registers are the
-- bits that are driven, with their formulas over the numbers of the machine's names. It is checked: its ports and
-- registers stand in the order of names, and its equations so that each reads only what is known before it.
pub record IsMachineOf (design : DesignFile) (m : Machine) : Type 0 where
  pub checked : IsChecked m
  pub name : m.name ≡ design.entity.name
  pub ports : IsPermutation m.ports (port_bits (symbols design))
  pub clock : m.clock ≡ clock_name design
  pub equations : IsPermutation m.equations (map (λ d. record { name = d.name; expr = numbered m.vars d.formula }) (definitions design))
  pub registers : IsPermutation m.registers (map (λ r. record { name = r.name; next = numbered m.vars r.next; enable = numbered m.vars r.enable }) (storage design))
