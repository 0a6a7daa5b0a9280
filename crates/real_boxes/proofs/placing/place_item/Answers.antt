use Rattle.std.proofs.Common.{sym}
use Rattle.cell_model.proofs.Members.{All-In}
use Rattle.cell_model.specs.Usable.{IsFormed}
use Rattle.cell_checks.specs.Checked.{library_of}
use Rattle.cougar_extract.proofs.ShownLine.{placed_near}
use Rattle.s2r_cif.proofs.Reached.{named_formed}
use Rattle.real_boxes.proofs.placing.place_item.Goals as goal

pub place-requires-clause-formed : goal.place-requires-clause-formed
place-requires-clause-formed c =
    named_formed c.args.cells.now c.in-Instance.instance.model c.in-Some.cell.now (λ d i. All-In IsFormed c.args.cells.now c.requires.formed d i) (sym c.in-Some.ensures)

pub place-requires-clause-x : goal.place-requires-clause-x
place-requires-clause-x c = (placed_near (library_of c.args.cells.now) c.args.item.now c.in-Instance.instance c.in-Instance.is c.requires.places).0

pub place-requires-clause-y : goal.place-requires-clause-y
place-requires-clause-y c = (placed_near (library_of c.args.cells.now) c.args.item.now c.in-Instance.instance c.in-Instance.is c.requires.places).1
