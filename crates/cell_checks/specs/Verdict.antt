-- What the checks of a cell come to.
use Rattle.std.specs.Prelude.{ℕ, ◌<◌, Bool, IsTrue, Option, None, Some}
use Rattle.cell_model.specs.Cell.{Cell}
use Rattle.cell_model.specs.Usable.{IsMappable}
use Rattle.cell_model.specs.Connectors.{PinsAreConnectors}
use Rattle.cell_checks.specs.declared.verdict.Check.{Check}
use Rattle.cell_checks.specs.declared.verdict.Check.TheVariants as check
use Rattle.cell_checks.specs.declared.verdict.CellVerdict.{CellVerdict}
use Rattle.cell_checks.specs.declared.verdict.CellVerdict.TheVariants as verdict
use Rattle.cell_checks.specs.declared.verdict.TheConstants.{MOST_COLUMNS}
use Rattle.cell_checks.specs.Checks.{HasColumns, StandsInRow, HasRails, IsReached, PinsAreApart, KeepsToItsBox, KeepsFromRails, ColumnsDiffer}

-- the number of a check, by which it is printed: the first two are those of the cell's two files
abbrev pub check_number : Check → ℕ
check_number check.Connectors = 3
check_number check.Box = 4
check_number check.Rails = 5
check_number check.Access = 6
check_number check.PinsApart = 7
check_number check.WithinBox = 8
check_number check.RailGaps = 9
check_number check.Columns = 10

-- the cell passes the check: the connectors of every cell are looked at, the rest of mappable cells, columns with tracks alone
abbrev pub PassesCheck : Bool → Cell → Check → Type 0
PassesCheck tracks c check.Connectors = PinsAreConnectors c
PassesCheck tracks c check.Box = IsMappable c → StandsInRow c
PassesCheck tracks c check.Rails = IsMappable c → HasRails c
PassesCheck tracks c check.Access = IsMappable c → IsReached c
PassesCheck tracks c check.PinsApart = IsMappable c → PinsAreApart c
PassesCheck tracks c check.WithinBox = IsMappable c → KeepsToItsBox c
PassesCheck tracks c check.RailGaps = IsMappable c → KeepsFromRails c
PassesCheck tracks c check.Columns = IsMappable c → IsTrue tracks → ColumnsDiffer c

-- the cell fails this check, and passes those of lower numbers
pub record FailsFirst (tracks : Bool) (c : Cell) (k : Check) : Type 0 where
  pub fails : PassesCheck tracks c k → ⊥
  pub earlier : (j : Check) → check_number j < check_number k → PassesCheck tracks c j

-- a mappable cell is wider than a library's cells may be
pub record IsTooWide (c : Cell) (columns : ℕ) : Type 0 where
  pub mappable : IsMappable c
  pub box : HasColumns c columns
  pub wide : MOST_COLUMNS < columns

-- The cell passes its checks and isn't too wide; or it fails a check, the first that it fails; or it passes them all and is
-- too wide.
abbrev pub IsVerdict : Bool → Cell → CellVerdict → Type 0
IsVerdict tracks c verdict.Passes = ((k : Check) → PassesCheck tracks c k) × ((columns : ℕ) → IsTooWide c columns → ⊥)
IsVerdict tracks c (verdict.Fails k) = FailsFirst tracks c k
IsVerdict tracks c (verdict.TooWide columns) = ((k : Check) → PassesCheck tracks c k) × IsTooWide c columns

-- the first check that a cell fails, if it fails one
abbrev pub IsFirstFailure : Bool → Cell → Option Check → Type 0
IsFirstFailure tracks c None = (k : Check) → PassesCheck tracks c k
IsFirstFailure tracks c (Some k) = FailsFirst tracks c k

-- what is known of a mappable cell whose joined shapes are looked at
pub record PassesFirst (c : Cell) : Type 0 where
  pub connectors : PinsAreConnectors c
  pub row : StandsInRow c
  pub rails : HasRails c
  pub reached : IsReached c
