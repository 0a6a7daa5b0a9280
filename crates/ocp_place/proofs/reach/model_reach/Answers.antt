use Rattle.std.proofs.Common.{◌≡◌, Some, sym, subst}
use Rattle.cell_model.specs.Library.{Library, cell_named}
use Rattle.ocp_place.proofs.Models.{formed_cell, cell_row, cell_narrow}
use Rattle.ocp_place.proofs.reach.model_reach.Goals as goal

pub cell_reach-requires-clause-formed : goal.cell_reach-requires-clause-formed
cell_reach-requires-clause-formed c =
    let found : cell_named c.args.library.now.cells c.args.model.now ≡ Some c.in-Some.cell.now =
    subst (λ (l : Library). cell_named l.cells c.args.model.now ≡ Some c.in-Some.cell.now) c.cells.ensures.value (sym c.in-Some.ensures) in
    formed_cell c.args.library.now c.args.model.now c.in-Some.cell.now c.cells.ensures.checked found

pub cell_reach-requires-clause-row : goal.cell_reach-requires-clause-row
cell_reach-requires-clause-row c =
    let found : cell_named c.args.library.now.cells c.args.model.now ≡ Some c.in-Some.cell.now =
    subst (λ (l : Library). cell_named l.cells c.args.model.now ≡ Some c.in-Some.cell.now) c.cells.ensures.value (sym c.in-Some.ensures) in
    cell_row c.args.library.now c.args.model.now c.in-Some.cell.now c.cells.ensures.checked found (c.is_mappable.ensures.0 c.if-is_mappable.true)

pub cell_reach-requires-clause-narrow : goal.cell_reach-requires-clause-narrow
cell_reach-requires-clause-narrow c =
    let found : cell_named c.args.library.now.cells c.args.model.now ≡ Some c.in-Some.cell.now =
    subst (λ (l : Library). cell_named l.cells c.args.model.now ≡ Some c.in-Some.cell.now) c.cells.ensures.value (sym c.in-Some.ensures) in
    cell_narrow c.args.library.now c.args.model.now c.in-Some.cell.now c.cells.ensures.checked found (c.is_mappable.ensures.0 c.if-is_mappable.true)
