use Rattle.std.proofs.Common.{rules}
use Rattle.vbe_io.specs.Cell.{IsCellRefusal}
use Rattle.vbe_io.proofs.Cells.{in_err, cell_refused, unread}
use Rattle.vbe_io.proofs.cell.read_cell_vbe.Goals as goal

pub returns-in_err-design-clause-refused : goal.returns-in_err-design-clause-refused
returns-in_err-design-clause-refused c =
    let refused : IsCellRefusal c.args.bytes.now c.in_err-design.field-0.0 =
    unread c.args.bytes.now c.in_err-design.field-0.0 c.in_err-design.ensures.refused c.in_err-design.ensures.other in
    search rules

pub returns-clause-refused : goal.returns-clause-refused
returns-clause-refused c =
    in_err (λ e is. cell_refused c.args.bytes.now c.in_ok-design.design e c.in_ok-design.ensures.written is) c.completed.result c.completed.ensures.refused
