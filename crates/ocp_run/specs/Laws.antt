-- What holds of a netlist that is read to be placed, and of the file that is written of its placement.
use Rattle.std.specs.Prelude.{◌≤◌, ℕ, false, List, length}
use Rattle.cell_model.specs.Library.{Library}
use Rattle.cell_checks.specs.Checked.{IsChecked as HasPassed}
use Rattle.cell_lib.specs.Library.{IsLibraryOf}
use Rattle.cell_pins.specs.Table.{IsTableOf}
use Rattle.net_core.specs.declared.pins.ModelPins.{ModelPins}
use Rattle.net_core.specs.Netlist.{Netlist}
use Rattle.net_right.specs.Condition.{MeetsCondition}
use Rattle.net_right.specs.Writable.{CanBeNamed, HasShortNames}
use Rattle.ap_io.specs.declared.figure.Figure.{Figure}
use Rattle.ap_io.specs.ApText.{IsApLines}
use Rattle.ocp_place.specs.Drawable.{IsDrawableIn}
use Rattle.ocp_place.specs.Placed.{InRow, IsRowPlacementOf}
use Rattle.route_draw.specs.Law.{HasFewPins}
use Rattle.ocp_run.specs.Source.{IsSource, AreRead}
use Rattle.ocp_run.specs.Ocp.{IsPlacedText}

-- The library has passed its checks, and the netlist can be placed over it and drawn.
pub record CanBePlaced (l : Library) (n : Netlist) : Type 0 where
  pub passed : HasPassed false l
  pub drawable : IsDrawableIn l n

abbrev pub SourceCanBePlaced : Type 0
SourceCanBePlaced =
    (source catal : List ℕ) (cells : List (List ℕ)) (l : Library) (table : List ModelPins) (n : Netlist) → AreRead source catal cells l table n
    → MeetsCondition table n → CanBePlaced l n

-- its names can be written
abbrev pub SourceIsNamed : Type 0
SourceIsNamed =
    (source catal : List ℕ) (cells : List (List ℕ)) (l : Library) (table : List ModelPins) (n : Netlist) → AreRead source catal cells l table n
    → MeetsCondition table n → CanBeNamed n

-- as short names, and as few instances, pins and ports, as a source within the limits gives
pub record IsOfLimitedSize (n : Netlist) : Type 0 where
  pub short : HasShortNames n
  pub few : HasFewPins n
  pub ports : length n.ports ≤ 8192

-- Of such a netlist the text of a placement is lines of the format, which say the drawing.
abbrev pub PlacedTextIsLines : Type 0
PlacedTextIsLines =
    (l : Library) (n : Netlist) (p : InRow) (bytes : List ℕ) → IsRowPlacementOf l n p → CanBeNamed n → IsOfLimitedSize n
    → (t : IsPlacedText l n p bytes) → IsApLines bytes t.figure
