use Rattle.std.proofs.Common.{ap, sym, subst, List, All}
use Rattle.cell_model.specs.Cell.{Cell}
use Rattle.cell_model.specs.Library.{Library}
use Rattle.cell_model.specs.Usable.{IsFormed}
use Rattle.cell_model.specs.Connectors.{PinsAreConnectors}
use Rattle.cell_pins.proofs.Sound.{connected}
use Rattle.loon_buffer.proofs.table.DriveTable.begin.Goals as goal

pub all_drives-requires-clause-formed : goal.all_drives-requires-clause-formed
all_drives-requires-clause-formed c =
    subst (λ (cs : List Cell). All IsFormed cs) (sym (ap (λ (l : Library). l.cells) c.cells.ensures.value)) c.cells.ensures.checked.formed

pub all_drives-requires-clause-connectors : goal.all_drives-requires-clause-connectors
all_drives-requires-clause-connectors c =
    subst (λ (cs : List Cell). All PinsAreConnectors cs) (sym (ap (λ (l : Library). l.cells) c.cells.ensures.value)) (connected c.args.library.now c.cells.ensures.checked)
