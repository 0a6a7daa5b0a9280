use Rattle.cell_lib.proofs.Judging.{fails_so, wide_so}
use Rattle.cell_lib.proofs.cells.checked.Goals as goal

pub returns-in-Fails-clause-err : goal.returns-in-Fails-clause-err
returns-in-Fails-clause-err c =
    fails_so c.args.tracks c.args.cell c.in_ok-check_cell.field-0 c.in-Fails.check c.number.result c.bad_cell.result c.in_ok-check_cell.ensures c.in-Fails.is c.number.ensures c.bad_cell.ensures

pub returns-in-TooWide-clause-err : goal.returns-in-TooWide-clause-err
returns-in-TooWide-clause-err c = wide_so c.args.tracks c.args.cell c.in_ok-check_cell.field-0 c.in-TooWide.columns c.in_ok-check_cell.ensures c.in-TooWide.is
