use Rattle.std.proofs.Common.{sym, ◌∙◌}
use Rattle.cell_lib.proofs.Telling.{unread_so, placed_so}
use Rattle.cell_lib.proofs.layout.read_layout.Goals as goal

pub returns-then-has_instance-clause-err : goal.returns-then-has_instance-clause-err
returns-then-has_instance-clause-err c =
    placed_so c.args.cell.now c.args.ap.now c.in-Ok.figure c.as_slice.result.now c.bad_cell.result c.in-Ok.ensures.accepted c.as_slice.ensures
    (sym c.has_instance.ensures ∙ c.if-has_instance.true) c.bad_cell.ensures

pub returns-in-Err-clause-err : goal.returns-in-Err-clause-err
returns-in-Err-clause-err c = unread_so c.args.cell.now c.args.ap.now c.in-Err.e c.told_as.result c.in-Err.ensures.refused c.told_as.ensures
