-- The text of a layout in rows, and of one in which a net got stuck.
use Rattle.std.specs.Prelude.{◌≡◌, ◌⊎◌, ℕ, List, ◌++◌, codes, None, Some}
use Rattle.vlsi_base.specs.declared.name.Terminal.{Terminal}
use Rattle.cell_model.specs.Library.{Library}
use Rattle.net_core.specs.Netlist.{Netlist}
use Rattle.net_meaning.specs.Netlist.{AbstractNetlist as Seen}
use Rattle.net_right.specs.View.{IsSeenAs}
use Rattle.ap_io.specs.declared.figure.Figure.{Figure}
use Rattle.ap_io.specs.Spelling.{text_of}
use Rattle.ocp_place.specs.Nets.{net_number}
use Rattle.ocp_place.specs.Placed.{InRow, rows_of, stood_in}
use Rattle.grid_core.specs.Routes.{NetRoutes}
use Rattle.ocp_grid.specs.Points.{AreRoutesOf}
use Rattle.nero_nets.specs.Routed.{IsStuckBefore}
use Rattle.nero_nets.specs.Answers.{AreRouted}
use Rattle.route_draw.specs.Grid.{IsDrawnInGrid, IsMarked}
use Rattle.tool_drive.specs.declared.status.Status.TheVariants as status
use Rattle.tool_drive.specs.declared.tool.Refusal.{Refusal}
use Rattle.nero_run.specs.declared.written.NoRoutes.{NoRoutes}
use Rattle.nero_run.specs.declared.written.NoRoutes.TheVariants as none

-- the placement is drawn with routes, and written; or drawn, marked and written
pub record IsTextOf (l : Library) (n : Netlist) (p : InRow) (routes : NetRoutes) (bytes : List ℕ) : Type 0 where
  pub figure : Figure
  pub drawn : IsDrawnInGrid l n p routes figure
  pub text : bytes ≡ text_of figure

pub record IsMarkedText (l : Library) (n : Netlist) (p : InRow) (routes : NetRoutes) (bytes : List ℕ) : Type 0 where
  pub plain : Figure
  pub drawn : IsDrawnInGrid l n p routes plain
  pub figure : Figure
  pub marked : IsMarked l n p plain figure
  pub text : bytes ≡ text_of figure

-- its nets were routed, each whole
pub record IsRoutedText (l : Library) (n : Netlist) (p : InRow) (metals : ℕ) (bytes : List ℕ) : Type 0 where
  pub routes : NetRoutes
  pub routed : AreRouted l n p metals routes
  pub shown : IsTextOf l n p routes bytes

-- they were routed up to this one, which lacks a way to this terminal
pub record IsStuckText (l : Library) (n : Netlist) (p : InRow) (metals net : ℕ) (terminal : Terminal) (bytes : List ℕ) : Type 0 where
  pub routes : NetRoutes
  pub trees : AreRoutesOf l n p metals routes
  pub stuck : (k : Seen) → IsSeenAs n k → IsStuckBefore k l (net_number k l) (rows_of k p) (stood_in k p) metals routes net terminal
  pub shown : IsMarkedText l n p routes bytes

-- why there is no text of whole routes
abbrev pub LacksRoutes : Library → Netlist → InRow → ℕ → NoRoutes → Type 0
LacksRoutes l n p metals none.Memory = Unit {0}
LacksRoutes l n p metals (none.NoPath net terminal bytes) = IsStuckText l n p metals net terminal bytes

-- ---- the refusal

-- the file that shows where a net got stuck
abbrev pub part_name : List ℕ → List ℕ
part_name out = out ++ codes "_part.ap"

abbrev pub out_of_memory : Refusal
out_of_memory = record { status = status.Memory; part = None }

-- out of memory, or that there is no path, with the text in NAME_part.ap
abbrev pub IsRefusedSo : List ℕ → NoRoutes → Refusal → Type 0
IsRefusedSo out none.Memory r = r ≡ out_of_memory
IsRefusedSo out (none.NoPath net terminal bytes) r =
    (r ≡ out_of_memory) ⊎ (r ≡ record { status = status.NoPath net terminal; part = Some (record { name = part_name out; bytes = bytes }) })
