-- What is true of each netlist with a scan path.
use Rattle.std.specs.Prelude.{ℕ, false, List}
use Rattle.cell_model.specs.Library.{Library}
use Rattle.cell_checks.specs.Checked.{IsChecked as HasPassed}
use Rattle.cell_pins.specs.Table.{IsTableOf}
use Rattle.net_core.specs.declared.pins.ModelPins.{ModelPins}
use Rattle.net_core.specs.Netlist.{Netlist, IsNetlist}
use Rattle.net_meaning.specs.Netlist.{AbstractNetlist}
use Rattle.net_right.specs.Condition.{MeetsCondition}
use Rattle.net_right.specs.View.{IsSeenAs}
use Rattle.scan_theory.specs.Scan.{IsScanned}
use Rattle.scan_theory.specs.Path.{IsPath, NoneTaken}
use Rattle.scan_theory.specs.Meaning.{Scans}

-- A netlist of usable cells of a checked library, which meets what the stages ask by the table of their pins, and what it is with a scan
-- path.
pub record IsScanOf (l : Library) (table : List ModelPins) (n : Netlist) (path : List (List ℕ)) (r : Netlist) : Type 0 where
  pub passed : HasPassed false l
  pub table_is : IsTableOf l false table
  pub sound : IsNetlist n
  pub met : MeetsCondition table n
  pub free : NoneTaken l n
  pub through : IsPath l n path
  pub scanned : IsScanned n l path r
  pub sound_after : IsNetlist r

-- it still meets what the stages ask
abbrev pub ScannedMeets : Type 0
ScannedMeets =
    (l : Library) (table : List ModelPins) (n : Netlist) (path : List (List ℕ)) (r : Netlist) → IsScanOf l table n path r → MeetsCondition table r

-- and it behaves as the given one where test is 0, and shifts where test is 1
abbrev pub ScannedScans : Type 0
ScannedScans =
    (l : Library) (table : List ModelPins) (n : Netlist) (path : List (List ℕ)) (r : Netlist) (y x : AbstractNetlist)
    → IsScanOf l table n path r → IsSeenAs n y → IsSeenAs r x → Scans l path y x
