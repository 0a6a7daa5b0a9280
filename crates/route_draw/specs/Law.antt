-- What is drawn of a netlist is right, and can be written.
use Rattle.std.specs.Prelude.{◌≤◌, false, filter, length, sum_by}
use Rattle.machine_core.specs.Machine.{Machine}
use Rattle.machine_core.specs.Checked.{IsChecked}
use Rattle.cell_model.specs.Library.{Library}
use Rattle.cell_checks.specs.Checked.{IsChecked as HasPassed}
use Rattle.net_core.specs.Netlist.{Netlist as InMemory}
use Rattle.net_meaning.specs.Netlist.{AbstractNetlist, Extracts}
use Rattle.net_right.specs.Right.{IsRightNetlist}
use Rattle.net_right.specs.View.{IsSeenAs}
use Rattle.net_right.specs.Writable.{CanBeNamed, HasShortNames}
use Rattle.net_drawing.specs.Drawing.{IsDrawable}
use Rattle.ap_io.specs.declared.figure.Figure.{Figure}
use Rattle.ap_io.specs.ApText.{IsFigure, HasNearLines, IsWithinLimits}
use Rattle.ocp_place.specs.Drawable.{IsDrawableIn}
use Rattle.ocp_place.specs.Nets.{is_signal, signal_ports, net_number}
use Rattle.ocp_place.specs.Placed.{InRow, IsRowPlacementOf}
use Rattle.nero_tracks.specs.Columns.{HaveOwnColumns}
use Rattle.ocp_rows.specs.Placement.{net_count}
use Rattle.ocp_grid.specs.Points.{nodes_of}
use Rattle.grid_core.specs.Routes.{NetRoutes}
use Rattle.grid_core.specs.Trees.{AreWhole}
use Rattle.route_draw.specs.Drawn.{IsDrawnInTracks}
use Rattle.route_draw.specs.Grid.{AreDrawable, IsDrawnInGrid, IsDrawnPlaced, IsMarked}

-- A netlist may be drawn over a checked library where no two pins of a cell in use are reached in one column, as each netlist of layouts
-- that it is seen as.
abbrev pub NetlistsAreDrawable : Type 0
NetlistsAreDrawable =
    (l : Library) (n : InMemory) (k : AbstractNetlist) → HasPassed false l → IsDrawableIn l n → HaveOwnColumns l n → IsSeenAs n k
    → IsDrawable k l (net_number k l) (signal_ports k)

-- The drawing of a right netlist gives exactly this netlist, since none of its signal pins is tied to a supply.
abbrev pub RightDrawingsAreRight : Type 0
RightDrawingsAreRight =
    (l : Library) (n : InMemory) (m : Machine) (k : AbstractNetlist) (f : Figure) → HasPassed false l → IsDrawableIn l n → IsChecked m → IsRightNetlist n l m
    → IsSeenAs n k → IsDrawnInTracks l n f → Extracts f.items l k

-- so few instances, and pins that are no supplies, as a source within the limits gives with all its buffers
pub record HasFewPins (n : InMemory) : Type 0 where
  pub instances : length n.instances ≤ 65536
  pub pins : sum_by (λ i. length (filter is_signal i.pins)) n.instances ≤ 163840

-- The figure can be written, where its names can, and it is no larger than a source within the limits gives.
abbrev pub DrawingCanBeWritten : Type 0
DrawingCanBeWritten =
    (l : Library) (n : InMemory) (f : Figure) → HasPassed false l → IsDrawableIn l n → CanBeNamed n → HasShortNames n
    → HasFewPins n → length n.ports ≤ 8192 → IsDrawnInTracks l n f → IsFigure f × IsWithinLimits f

-- So can the figure of routes over rows, but that its text may be longer.
abbrev pub GridDrawingCanBeWritten : Type 0
GridDrawingCanBeWritten =
    (l : Library) (n : InMemory) (p : InRow) (routes : NetRoutes) (f : Figure) → IsRowPlacementOf l n p → AreDrawable l n p routes → CanBeNamed n → HasShortNames n
    → HasFewPins n → length n.ports ≤ 8192 → IsDrawnInGrid l n p routes f → IsFigure f × HasNearLines f

-- So can that of rows without routes.
abbrev pub PlacedDrawingCanBeWritten : Type 0
PlacedDrawingCanBeWritten =
    (l : Library) (n : InMemory) (p : InRow) (f : Figure) → IsRowPlacementOf l n p → CanBeNamed n → HasShortNames n
    → HasFewPins n → length n.ports ≤ 8192 → IsDrawnPlaced l n p f → IsFigure f × HasNearLines f

-- And so can the figure of routes with marks at the points of nets.
abbrev pub MarkedDrawingCanBeWritten : Type 0
MarkedDrawingCanBeWritten =
    (l : Library) (n : InMemory) (p : InRow) (routes : NetRoutes) (f g : Figure) → IsRowPlacementOf l n p → AreDrawable l n p routes → CanBeNamed n → HasShortNames n
    → HasFewPins n → length n.ports ≤ 8192 → IsDrawnInGrid l n p routes f → IsMarked l n p f g → IsFigure g × HasNearLines g

-- The drawing of whole routes over the rows of a right netlist gives exactly this netlist.
abbrev pub RightGridDrawingsAreRight : Type 0
RightGridDrawingsAreRight =
    (l : Library) (n : InMemory) (m : Machine) (k : AbstractNetlist) (p : InRow) (routes : NetRoutes) (f : Figure) → IsRowPlacementOf l n p → IsChecked m
    → IsRightNetlist n l m → IsSeenAs n k → IsDrawnInGrid l n p routes f → AreWhole (nodes_of k l p) (net_count k) routes → Extracts f.items l k
