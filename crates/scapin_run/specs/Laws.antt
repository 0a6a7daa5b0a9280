-- What holds of a netlist that `scapin` reads, and of what it writes.
use Rattle.std.specs.Prelude.{ℕ, ◌^◌, ◌<◌, false, List, length}
use Rattle.cell_model.specs.Library.{Library}
use Rattle.cell_lib.specs.Library.{IsLibraryOf}
use Rattle.cell_pins.specs.Table.{IsTableOf}
use Rattle.net_core.specs.declared.pins.ModelPins.{ModelPins}
use Rattle.net_core.specs.Netlist.{Netlist}
use Rattle.net_core.specs.Checks.{Fits}
use Rattle.net_right.specs.Condition.{MeetsCondition}
use Rattle.net_right.specs.Writable.{CanBeNamed, PinsCanBeWritten}
use Rattle.scan_theory.specs.Scan.{IsScanned}
use Rattle.scan_theory.specs.Path.{NoneTaken}
use Rattle.scan_checks.specs.Room.{HasRoomForScan}
use Rattle.vst_io.specs.Text.{IsVst}

-- a netlist that is read with the pins of a library's usable cells has room for a scan path
abbrev pub NetlistHasRoom : Type 0
NetlistHasRoom =
    (catal source : List ℕ) (files : List (List ℕ)) (l : Library) (table : List ModelPins) (n : Netlist)
    → IsLibraryOf false catal files l → IsTableOf l false table → IsVst source table n → MeetsCondition table n → HasRoomForScan n

-- a netlist can be written with these pins
pub record IsWritable (table : List ModelPins) (k : Netlist) : Type 0 where
  pub fits : Fits k table
  pub pins : PinsCanBeWritten table
  pub named : CanBeNamed k

-- so can one that was read so, and then got a scan path whose names were free
abbrev pub ScannedIsWritable : Type 0
ScannedIsWritable =
    (catal source : List ℕ) (files : List (List ℕ)) (l : Library) (table : List ModelPins) (n r : Netlist) (path : List (List ℕ))
    → IsLibraryOf false catal files l → IsTableOf l false table → IsVst source table n → MeetsCondition table n → NoneTaken l n
    → length path < 2 ^ 27 → IsScanned n l path r → MeetsCondition table r → IsWritable table r
