use Rattle.std.proofs.Common.{rules}
use Rattle.cell_lib.specs.Cells.{OrMemory}
use Rattle.cell_lib.specs.Library.{IsCellRefusal}
use Rattle.cell_lib.proofs.Forming.{formed}
use Rattle.cell_lib.proofs.Judging.{unsaid_so, unfit_so, is_cell}
use Rattle.cell_lib.proofs.cells.checked_cell.Goals as goal

pub returns-in_err-cell-clause-err : goal.returns-in_err-cell-clause-err
returns-in_err-cell-clause-err c =
    let refused : OrMemory (IsCellRefusal c.args.tracks (record { name = c.args.name.now; vbe = c.args.vbe.now; ap = c.args.ap.now })) c.in_err-cell.field-0.0 =
    unsaid_so c.args.tracks (record { name = c.args.name.now; vbe = c.args.vbe.now; ap = c.args.ap.now }) c.in_err-cell.field-0.0 c.in_err-cell.ensures.err in
    search rules

pub checked-requires : goal.checked-requires
checked-requires c = formed (record { name = c.args.name.now; vbe = c.args.vbe.now; ap = c.args.ap.now }) c.in_ok-cell.cell c.in_ok-cell.ensures.ok

pub returns-clause-ok : goal.returns-clause-ok
returns-clause-ok c =
    is_cell c.args.tracks (record { name = c.args.name.now; vbe = c.args.vbe.now; ap = c.args.ap.now }) c.in_ok-cell.cell c.checked.result c.in_ok-cell.ensures.ok c.checked.ensures.same
    c.checked.ensures.passes

pub returns-clause-err : goal.returns-clause-err
returns-clause-err c =
    unfit_so c.args.tracks (record { name = c.args.name.now; vbe = c.args.vbe.now; ap = c.args.ap.now }) c.in_ok-cell.cell c.checked.result c.in_ok-cell.ensures.ok c.checked.ensures.err
