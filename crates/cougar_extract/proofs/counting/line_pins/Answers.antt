use Rattle.std.proofs.Common.{List, length, ap, sym, arith}
use Rattle.cell_model.specs.declared.cell.Pin.{Pin}
use Rattle.cell_model.specs.Usable.{IsFormed}
use Rattle.cell_model.proofs.Members.{All-In}
use Rattle.cell_checks.specs.Checked.{library_of}
use Rattle.net_right.proofs.Models.{named_cell}
use Rattle.cougar_extract.proofs.PinCounts.{pins_known}
use Rattle.cougar_extract.proofs.counting.line_pins.Goals as goal

pub returns-in-Some : goal.returns-in-Some
returns-in-Some c =
    let l = library_of c.args.cells.now in
    let i = c.in-Instance.instance in
    let cell = c.in-Some.cell.now in
    let formed = All-In IsFormed c.args.cells.now c.requires cell (named_cell c.args.cells.now i.model cell (sym c.in-Some.ensures)).0 in
    let pins = pins_known l c.args.item.now i cell c.in-Instance.is (sym c.in-Some.ensures) formed in
    let many = ap (λ (ps : List Pin). length ps) c.as_slice.ensures in
    omega (arith, pins, many)
