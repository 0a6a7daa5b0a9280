use Rattle.std.proofs.Common.{ap, sym, subst, List, All}
use Rattle.cell_model.specs.Cell.{Cell}
use Rattle.cell_model.specs.Library.{Library}
use Rattle.cell_model.specs.Usable.{IsFormed}
use Rattle.cell_model.specs.Connectors.{PinsAreConnectors}
use Rattle.cell_pins.specs.Table.{IsListed}
use Rattle.cell_pins.proofs.Sound.{connected, sound, Apart}
use Rattle.cell_pins.proofs.table.pin_table.Goals as goal

pub models_of-requires-clause-formed : goal.models_of-requires-clause-formed
models_of-requires-clause-formed c =
    subst (λ (cs : List Cell). All IsFormed cs) (sym (ap (λ (l : Library). l.cells) c.cells.ensures.value)) c.cells.ensures.checked.formed

pub models_of-requires-clause-connectors : goal.models_of-requires-clause-connectors
models_of-requires-clause-connectors c =
    subst (λ (cs : List Cell). All PinsAreConnectors cs) (sym (ap (λ (l : Library). l.cells) c.cells.ensures.value)) (connected c.args.library.now c.cells.ensures.checked)

pub returns-clause-sound : goal.returns-clause-sound
returns-clause-sound c =
    rw c.new.ensures
    (sound (IsListed c.args.all) c.cells.result.now c.in_ok-models.models.items
    (subst (λ (cs : List Cell). All IsFormed cs) (sym (ap (λ (l : Library). l.cells) c.cells.ensures.value)) c.cells.ensures.checked.formed)
    (subst (λ (cs : List Cell). Apart cs) (sym (ap (λ (l : Library). l.cells) c.cells.ensures.value)) c.cells.ensures.checked.names) c.in_ok-models.ensures)
