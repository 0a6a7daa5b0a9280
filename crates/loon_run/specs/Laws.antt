-- What holds of a library and of a netlist that `loon` reads, and of what it writes.
use Rattle.std.specs.Prelude.{ℕ, false, List}
use Rattle.cell_model.specs.Library.{Library}
use Rattle.cell_lib.specs.Library.{IsLibraryOf}
use Rattle.cell_pins.specs.Table.{IsTableOf}
use Rattle.net_core.specs.declared.pins.ModelPins.{ModelPins}
use Rattle.net_core.specs.Places.{IsThere}
use Rattle.net_core.specs.Netlist.{Instance, Netlist, IsNetlist}
use Rattle.net_core.specs.Checks.{Fits, IsPinTable}
use Rattle.net_right.specs.Condition.{MeetsCondition}
use Rattle.net_right.specs.Writable.{CanBeNamed, PinsCanBeWritten}
use Rattle.delay_sta.specs.Timed.{CanBeTimed}
use Rattle.loon_fanout.specs.Limited.{HasRoomForGates, IsOfCells}
use Rattle.loon_fanout.specs.Laws.{IsTied}
use Rattle.vst_io.specs.Text.{IsVst}
use Rattle.loon_run.specs.Loon.{IsMade}

-- each instance has a usable cell of the library, and its pins
abbrev pub HasUsableCells : Library → Netlist → Type 0
HasUsableCells l n = (i : Instance) → IsThere n.instances i → IsOfCells n l

-- what is asked of a netlist that is to get buffers and drives
pub record IsDrivable (l : Library) (n : Netlist) : Type 0 where
  pub sound : IsNetlist n
  pub cells : HasUsableCells l n
  pub tied : IsTied n
  pub timed : CanBeTimed l n

-- so is a netlist that is read with the pins of the usable cells
abbrev pub NetlistIsDrivable : Type 0
NetlistIsDrivable =
    (catal : List ℕ) (files : List (List ℕ)) (l : Library) (table : List ModelPins) (n : Netlist) → IsLibraryOf false catal files l
    → IsTableOf l false table → IsNetlist n → MeetsCondition table n → IsDrivable l n

-- and one that is read with these pins has few enough ports and pins for all buffers
abbrev pub NetlistHasRoom : Type 0
NetlistHasRoom =
    (catal source : List ℕ) (files : List (List ℕ)) (l : Library) (table : List ModelPins) (n : Netlist) → IsLibraryOf false catal files l
    → IsTableOf l false table → IsVst source table n → MeetsCondition table n → HasRoomForGates n

-- what becomes of it can be written with these pins
pub record IsWritable (table : List ModelPins) (k : Netlist) : Type 0 where
  pub fits : Fits k table
  pub pins : PinsCanBeWritten table
  pub named : CanBeNamed k

abbrev pub DrivenIsWritable : Type 0
DrivenIsWritable =
    (catal source : List ℕ) (files : List (List ℕ)) (l : Library) (table : List ModelPins) (n k : Netlist) (fanout delay : ℕ)
    → IsLibraryOf false catal files l → IsTableOf l false table → IsPinTable table → IsVst source table n → MeetsCondition table n
    → IsMade n l fanout k delay → HasUsableCells l k → IsWritable table k
