-- A netlist that is read can be placed, and its names can be written.
use Rattle.std.proofs.Common.{◌≡◌, ℕ, false, List, map, sym, ◌∙◌, subst}
use Rattle.vlsi_base.specs.Member.{In}
use Rattle.text_names.specs.Words.{IsIdentifier}
use Rattle.cell_model.specs.Cell.{Cell}
use Rattle.cell_model.specs.Library.{Library}
use Rattle.cell_model.proofs.Members.{All-In}
use Rattle.cell_checks.specs.Checked.{IsChecked as HasPassed}
use Rattle.cell_lib.specs.Cells.{sources}
use Rattle.cell_lib.specs.Library.{IsLibraryOf}
use Rattle.cell_lib.specs.Laws.{LibraryPasses}
use Rattle.cell_pins.specs.Table.{IsTableOf}
use Rattle.net_core.specs.declared.pins.ModelPins.{ModelPins}
use Rattle.net_core.specs.Places.{IsThere}
use Rattle.net_core.specs.Netlist.{Instance, Netlist}
use Rattle.net_core.specs.Checks.{Fits}
use Rattle.net_right.proofs.Lists.{in_place}
use Rattle.vbe_writable.specs.Laws.{CatalIsNamed}
use Rattle.vst_laws.specs.Writable.{NetlistCanBeNamed}
use Rattle.vst_laws.proofs.Pins.{said_in, name_in}
use Rattle.ap_io.specs.ApText.{IsApLines}
use Rattle.ap_io.specs.Laws.{LinesAreReadAgain}
use Rattle.route_draw.specs.Law.{PlacedDrawingCanBeWritten}
use Rattle.ocp_run.specs.Laws.{SourceCanBePlaced, SourceIsNamed, PlacedTextIsLines}
use Rattle.ocp_run.proofs.Cells.{HasCell, usable_cell}
use Rattle.ocp_run.proofs.Ports.{in_stands}

-- each instance has a usable cell
cell_at : (l : Library) (table : List ModelPins) (n : Netlist) → HasPassed false l → IsTableOf l false table → Fits n table → (i : Instance) → In i n.instances
    → HasCell l.cells i.model
cell_at l table n passed of fits i at =
    usable_cell l.cells table i.model of passed.names (All-In (λ (x : Instance). IsThere (map (λ m. m.model) table) x.model) n.instances fits.listed i at)

pub can_be_placed : LibraryPasses → SourceCanBePlaced
can_be_placed passes source catal cells l table n read met =
    let passed = passes false catal cells l read.library in
    record {
      passed = passed;
      drawable = record {
        sound = read.netlist.netlist.netlist.sound;
        all = false;
        table = table;
        listed = read.pins;
        meets = met;
        usable = λ i t. let f = cell_at l table n passed read.pins met.fits i (in_stands n.instances i t) in (f.cell, f.found, f.usable);
        has_vdd = read.netlist.has_vdd;
        has_vss = read.netlist.has_vss;
      };
    }

-- the cells of a library have identifiers as names
model_named : CatalIsNamed → (catal : List ℕ) (files : List (List ℕ)) (l : Library) → IsLibraryOf false catal files l → (model : List ℕ) → HasCell l.cells model
    → IsIdentifier model
model_named lists catal files l library model f =
    let x = said_in false (sources library.names files) l.cells library.cells f.cell f.listed in
    subst IsIdentifier (sym x.2.said.name ∙ f.named) (lists catal library.names library.uses x.0.name (name_in library.names files x.0 x.1))

pub source_is_named : LibraryPasses → CatalIsNamed → NetlistCanBeNamed → SourceIsNamed
source_is_named passes lists named source catal cells l table n read met =
    named source table n read.netlist.netlist met (λ i at.
    model_named lists catal cells l read.library i.model (cell_at l table n (passes false catal cells l read.library) read.pins met.fits i at))

pub placed_text_is_lines : PlacedDrawingCanBeWritten → LinesAreReadAgain → PlacedTextIsLines
placed_text_is_lines written again l n p bytes placed named size t =
    let fits = written l n p t.figure placed named size.short size.few size.ports t.drawn in
    subst (λ (b : List ℕ). IsApLines b t.figure) (sym t.text) (again t.figure fits.0 fits.1)
