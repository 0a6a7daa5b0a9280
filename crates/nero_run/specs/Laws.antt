-- What is written of a placement with routes.
use Rattle.std.specs.Prelude.{◌≤◌, ℕ, List}
use Rattle.vlsi_base.specs.declared.name.Terminal.{Terminal}
use Rattle.cell_model.specs.Library.{Library}
use Rattle.net_core.specs.Netlist.{Netlist}
use Rattle.net_right.specs.Writable.{CanBeNamed}
use Rattle.ap_io.specs.ApText.{IsApLines}
use Rattle.ocp_place.specs.Placed.{InRow, IsRowPlacementOf}
use Rattle.ocp_run.specs.Laws.{IsOfLimitedSize}
use Rattle.nero_run.specs.RowText.{IsRoutedText, IsStuckText}

-- Of a netlist whose names can be written, and which is no larger than a source within the limits gives, the text of a layout is lines of
-- the format, which say the drawing.
abbrev pub RoutedTextIsLines : Type 0
RoutedTextIsLines =
    (l : Library) (n : Netlist) (p : InRow) (metals : ℕ) (bytes : List ℕ) → IsRowPlacementOf l n p → metals ≤ 6 → CanBeNamed n → IsOfLimitedSize n
    → (t : IsRoutedText l n p metals bytes) → IsApLines bytes t.shown.figure

-- So is the text that shows where a net got stuck.
abbrev pub StuckTextIsLines : Type 0
StuckTextIsLines =
    (l : Library) (n : Netlist) (p : InRow) (metals net : ℕ) (terminal : Terminal) (bytes : List ℕ) → IsRowPlacementOf l n p → metals ≤ 6 → CanBeNamed n
    → IsOfLimitedSize n → (t : IsStuckText l n p metals net terminal bytes) → IsApLines bytes t.shown.figure
