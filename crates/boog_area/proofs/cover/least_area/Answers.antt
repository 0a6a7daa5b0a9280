use Rattle.std.proofs.Common.{All}
use Rattle.cell_model.specs.Usable.{IsFormed}
use Rattle.cell_model.specs.Connectors.{PinsAreConnectors}
use Rattle.boog_area.proofs.Given.{of_library, connected}
use Rattle.boog_area.proofs.cover.least_area.Goals as goal

pub missing_kind-requires-clause-formed : goal.missing_kind-requires-clause-formed
missing_kind-requires-clause-formed c = of_library c.cells.result.now c.args.library.now c.cells.ensures.value (All IsFormed) c.cells.ensures.checked.formed

pub missing_kind-requires-clause-connectors : goal.missing_kind-requires-clause-connectors
missing_kind-requires-clause-connectors c =
    of_library c.cells.result.now c.args.library.now c.cells.ensures.value (All PinsAreConnectors) (connected c.args.library.now c.cells.ensures.checked)
