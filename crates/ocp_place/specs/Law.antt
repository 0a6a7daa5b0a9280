-- Checked cells, and how long the nets of a placement are.
use Rattle.std.specs.Prelude.{◌≡◌, Bool, true, false, List, [], ◌∷◌}
use Rattle.machine_core.specs.Machine.{Machine}
use Rattle.machine_core.specs.Checked.{IsChecked}
use Rattle.cell_model.specs.Cell.{Cell}
use Rattle.cell_model.specs.Library.{Library, IsUsable}
use Rattle.cell_model.specs.Usable.{IsFormed}
use Rattle.cell_checks.specs.declared.verdict.CellVerdict.TheVariants as verdict
use Rattle.cell_checks.specs.Checked.{IsChecked as HasPassed}
use Rattle.cell_checks.specs.Verdict.{IsVerdict}
use Rattle.cell_pins.specs.Table.{IsTableOf}
use Rattle.net_core.specs.declared.pins.ModelPins.{ModelPins}
use Rattle.net_core.specs.Netlist.{Netlist as InMemory, IsNetlist}
use Rattle.net_core.specs.Checks.{IsPinTable}
use Rattle.net_drawing.specs.Clean.{IsClean}
use Rattle.net_meaning.specs.Netlist.{AbstractNetlist}
use Rattle.net_right.specs.Right.{IsRightNetlist, HasPinsOfCells}
use Rattle.ocp_rows.specs.Placement.{Placement}
use Rattle.ocp_rows.specs.Length.{half_perimeter}
use Rattle.ocp_place.specs.Drawable.{IsDrawableIn}
use Rattle.ocp_place.specs.Nets.{signal_ports}
use Rattle.ocp_place.specs.Sites.{length_of}
use Rattle.ocp_place.specs.Placed.{InRow, IsRowOf}
use Rattle.ocp_place.specs.Orderly.{IsOrderly}

-- the row of a netlist with its ports, as a placement of layouts
abbrev pub row_of : AbstractNetlist → Placement
row_of n = record { rows = n.instances ∷ []; ports = signal_ports n; tracks = true }

-- The half perimeters of all classes but the supplies', as a placement in memory has them, are those of the netlist's nets.
abbrev pub LengthsAreRight : Type 0
LengthsAreRight =
    (n : AbstractNetlist) (l : Library) (p : InRow) → IsOrderly n l → IsRowOf n l p
    → length_of p.high p.low p.ends ≡ half_perimeter n l (row_of n)

-- A usable cell that has passed its checks is clean, whether or not that of columns is among them.
abbrev pub CheckedCellsAreClean : Type 0
CheckedCellsAreClean = (c : Cell) → IsFormed c → IsVerdict false c verdict.Passes → IsUsable c → IsClean c

-- A right netlist whose instances have the pins of their cells may be placed over a checked library: there is a
-- table of the library's pins to check it by.
abbrev pub RightMayBeDrawn : Type 0
RightMayBeDrawn =
    (l : Library) (n : InMemory) (m : Machine) (all : Bool) (table : List ModelPins) → HasPassed false l → IsTableOf l all table → IsPinTable table
    → IsNetlist n → IsChecked m → IsRightNetlist n l m → HasPinsOfCells n l → IsDrawableIn l n
