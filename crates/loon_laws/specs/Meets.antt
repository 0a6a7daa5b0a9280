-- A netlist with buffers and other drives meets what the stages ask, where the given one does.
use Rattle.std.specs.Prelude.{ℕ, false, List}
use Rattle.cell_model.specs.Library.{Library}
use Rattle.cell_checks.specs.Checked.{IsChecked as HasPassed}
use Rattle.cell_pins.specs.Table.{IsTableOf}
use Rattle.net_core.specs.declared.pins.ModelPins.{ModelPins}
use Rattle.net_core.specs.Netlist.{Netlist, IsNetlist}
use Rattle.net_right.specs.Condition.{MeetsCondition}
use Rattle.loon_fanout.specs.Limited.{IsOfCells}
use Rattle.loon_drive.specs.Driven.{IsDrivenFrom}
use Rattle.loon_run.specs.Loon.{IsMade}

-- Of a netlist of usable cells of a checked library, by the table of their pins: whether or not it is right for a machine, what the
-- stages ask of it holds of it with buffers and other drives.
abbrev pub DrivenMeetsCondition : Type 0
DrivenMeetsCondition =
    (n : Netlist) (l : Library) (table : List ModelPins) (fanout : ℕ) (k : Netlist) (delay : ℕ) → HasPassed false l → IsTableOf l false table
    → IsNetlist n → IsNetlist k → IsOfCells n l → MeetsCondition table n → IsDrivenFrom n l fanout k delay → MeetsCondition table k

-- and of what `loon` makes of it, which is the netlist itself where it has no instances
abbrev pub MadeMeetsCondition : Type 0
MadeMeetsCondition =
    (n : Netlist) (l : Library) (table : List ModelPins) (fanout : ℕ) (k : Netlist) (delay : ℕ) → HasPassed false l → IsTableOf l false table
    → IsNetlist n → IsNetlist k → MeetsCondition table n → IsMade n l fanout k delay → MeetsCondition table k
