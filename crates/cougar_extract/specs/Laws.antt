-- What is true of netlists of layouts.
use Rattle.std.specs.Prelude.{Bool, true, List}
use Rattle.ap_io.specs.declared.figure.Figure.{Figure}
use Rattle.cell_model.specs.Library.{Library}
use Rattle.cell_checks.specs.Checked.{IsChecked as HasPassed}
use Rattle.cell_pins.specs.Table.{IsTableOf}
use Rattle.net_core.specs.declared.pins.ModelPins.{ModelPins}
use Rattle.net_core.specs.Netlist.{Netlist as InMemory}
use Rattle.net_core.specs.Checks.{Fits, IsPinTable}
use Rattle.net_meaning.specs.Netlist.{AbstractNetlist, Extracts}
use Rattle.net_right.specs.View.{IsSeenAs}
use Rattle.net_right.specs.Right.{HasPinsOfCells}
use Rattle.cougar_extract.specs.Extracted.{IsExtracted}

-- As every netlist that it can be seen as, it is the one that the layout gives.
abbrev pub ExtractedIsGiven : Type 0
ExtractedIsGiven =
    (f : Figure) (l : Library) (tracks : Bool) (n : InMemory) (k : AbstractNetlist) → HasPassed tracks l → IsExtracted f l n → IsSeenAs n k
    → Extracts f.items l k

-- its instances have the pins of their cells
abbrev pub ExtractedHasPins : Type 0
ExtractedHasPins = (f : Figure) (l : Library) (n : InMemory) → IsExtracted f l n → HasPinsOfCells n l

-- and it fits the table of all cells
abbrev pub ExtractedFits : Type 0
ExtractedFits =
    (f : Figure) (l : Library) (tracks : Bool) (table : List ModelPins) (n : InMemory) → HasPassed tracks l → IsTableOf l true table → IsPinTable table
    → IsExtracted f l n → Fits n table
