-- The machine with each free bit 1, over the names of that with each 0.
use Rattle.std.specs.Prelude.{◌≡◌, ◌<◌, ℕ, false, true, List, [], map, length, slice_index}
use Rattle.std.specs.List.{All, AllZip}
use Rattle.std.specs.List.Sorted.{IsPermutation}
use Rattle.vlsi_base.specs.declared.name.Name.{Name}
use Rattle.bool_expr.specs.Expression.{IsOver}
use Rattle.bool_expr.specs.Renumbering.{renumbered}
use Rattle.machine_core.specs.Machine.{Machine, Equation}
use Rattle.source_checks.specs.declared.statement.DesignFile.{DesignFile}
use Rattle.source_checks.specs.Symbols.{symbols}
use Rattle.source_checks.specs.Formula.{place, numbered}
use Rattle.source_checks.specs.Checks.{Passes}
use Rattle.source_checks.specs.Elaboration.{IsMachineOf, definitions}
use Rattle.source_bits.specs.Driven.{Numbered}
use Rattle.vlsi_model.specs.Numbered.{driven_at}
use Rattle.machine_free.specs.Free.{MayDiffer}
use Rattle.vbe_text.specs.Source.{SourceTree, source_view}
use Rattle.vbe_free.specs.Filled.{filled, free_forms}

-- the machine is that of a source that passes all checks with each free bit 0, each free bit of it stands where it may, and the design is
-- the source with each 1
pub record IsFirstOf (m : Machine) (high : DesignFile) : Type 0 where
  pub source : SourceTree
  pub low : DesignFile
  pub zeros : source_view low ≡ filled false source
  pub ones : source_view high ≡ filled true source
  pub passes : Passes low
  pub placed : free_forms (symbols low) source ≡ []
  pub machine : IsMachineOf low m

-- The equation of a name, of what the bits have the value of that are driven: `places` has the place of each name among these at its number
-- among all names, and `vars` the number of each of a machine's names.
abbrev pub equation_for : List Name → List Numbered → List ℕ → List ℕ → Name → Equation
equation_for all driven places vars n =
    record { name = n; expr = renumbered vars (driven_at driven (slice_index places (place all n))).expr }

-- the numbers that this reads are there
pub record IsFound (all : List Name) (driven : List Numbered) (places : List ℕ) (n : Name) : Type 0 where
  pub known : place all n < length places
  pub placed : slice_index places (place all n) < length driven

-- each formula is over the numbers that have one
abbrev pub AreOver : List Numbered → List ℕ → Type 0
AreOver driven vars = All (λ d. IsOver d.expr (length vars)) driven

-- what the design says of the names of a machine's equations, in their order, over its names
pub record AreOnes (m : Machine) (high : DesignFile) (made : List Equation) : Type 0 where
  pub all : IsPermutation made (map (λ d. record { name = d.name; expr = numbered m.vars d.formula }) (definitions high))
  pub agree : AllZip (MayDiffer m) m.equations made
