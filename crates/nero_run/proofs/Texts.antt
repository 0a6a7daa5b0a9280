-- What is written of a placement is lines of the format.
use Rattle.std.proofs.Common.{ℕ, List, sym, subst}
use Rattle.ap_io.specs.ApText.{IsApLines}
use Rattle.ap_io.specs.Laws.{LinesAreReadAgain}
use Rattle.route_draw.specs.Grid.{AreDrawable}
use Rattle.route_draw.specs.Law.{GridDrawingCanBeWritten, MarkedDrawingCanBeWritten}
use Rattle.nero_run.specs.Laws.{RoutedTextIsLines, StuckTextIsLines}

pub routed_text_is_lines : GridDrawingCanBeWritten → LinesAreReadAgain → RoutedTextIsLines
routed_text_is_lines written again l n p metals bytes placed few named size t =
    let drawable : AreDrawable l n p t.routes = record { metals = metals; few = few; trees = t.routed.trees } in
    let f = t.shown.figure in
    let fits = written l n p t.routes f placed drawable named size.short size.few size.ports t.shown.drawn in
    subst (λ (b : List ℕ). IsApLines b f) (sym t.shown.text) (again f fits.0 fits.1)

pub stuck_text_is_lines : MarkedDrawingCanBeWritten → LinesAreReadAgain → StuckTextIsLines
stuck_text_is_lines written again l n p metals net terminal bytes placed few named size t =
    let drawable : AreDrawable l n p t.routes = record { metals = metals; few = few; trees = t.trees } in
    let f = t.shown.figure in
    let fits = written l n p t.routes t.shown.plain f placed drawable named size.short size.few size.ports t.shown.drawn t.shown.marked in
    subst (λ (b : List ℕ). IsApLines b f) (sym t.shown.text) (again f fits.0 fits.1)
