use Rattle.std.proofs.Common.{rules}
use Rattle.cell_lib.specs.Cells.{OrMemory}
use Rattle.cell_lib.specs.Library.{IsUnsaid}
use Rattle.cell_lib.proofs.Judging.{unsaid_layout}
use Rattle.cell_lib.proofs.make.said_cell.Goals as goal

pub returns-in_err-figure-clause-err : goal.returns-in_err-figure-clause-err
returns-in_err-figure-clause-err c =
    let refused : OrMemory (IsUnsaid (record { name = c.args.name.now; vbe = c.args.vbe.now; ap = c.args.ap.now })) c.in_err-figure.field-0.0 =
    unsaid_layout (record { name = c.args.name.now; vbe = c.args.vbe.now; ap = c.args.ap.now }) c.in_ok-text.text c.in_err-figure.field-0.0 c.in_ok-text.ensures.ok
    c.in_err-figure.ensures.err in
    search rules
