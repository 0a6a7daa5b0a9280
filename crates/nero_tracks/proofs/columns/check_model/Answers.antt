use Rattle.std.proofs.Common.{◌≡◌, Some, sym, subst}
use Rattle.cell_model.specs.Library.{Library, cell_named}
use Rattle.ocp_place.proofs.Models.{formed_cell, cell_row}
use Rattle.nero_tracks.proofs.columns.check_model.Goals as goal

pub check_cell-requires-clause-formed : goal.check_cell-requires-clause-formed
check_cell-requires-clause-formed c =
    let found : cell_named c.args.library.now.cells c.args.model.now ≡ Some c.in-Some.cell.now =
    subst (λ (l : Library). cell_named l.cells c.args.model.now ≡ Some c.in-Some.cell.now) c.cells.ensures.value (sym c.in-Some.ensures) in
    formed_cell c.args.library.now c.args.model.now c.in-Some.cell.now c.cells.ensures.checked found

pub check_cell-requires-clause-row : goal.check_cell-requires-clause-row
check_cell-requires-clause-row c =
    let found : cell_named c.args.library.now.cells c.args.model.now ≡ Some c.in-Some.cell.now =
    subst (λ (l : Library). cell_named l.cells c.args.model.now ≡ Some c.in-Some.cell.now) c.cells.ensures.value (sym c.in-Some.ensures) in
    cell_row c.args.library.now c.args.model.now c.in-Some.cell.now c.cells.ensures.checked found (c.is_mappable.ensures.0 c.if-is_mappable.true)
