use Rattle.std.proofs.Common.{All, sym, subst}
use Rattle.cell_model.specs.Library.{Library}
use Rattle.cell_model.specs.Usable.{IsFormed}
use Rattle.cell_model.specs.Connectors.{PinsAreConnectors}
use Rattle.cell_pins.proofs.Sound.{connected}
use Rattle.flow_run.proofs.flow.check_kinds.Goals as goal

pub first_missing-requires-clause-formed : goal.first_missing-requires-clause-formed
first_missing-requires-clause-formed c = subst (λ (l : Library). All IsFormed l.cells) (sym c.cells.ensures.value) c.cells.ensures.checked.formed

pub first_missing-requires-clause-connectors : goal.first_missing-requires-clause-connectors
first_missing-requires-clause-connectors c =
    subst (λ (l : Library). All PinsAreConnectors l.cells) (sym c.cells.ensures.value) (connected c.args.library.now c.cells.ensures.checked)
