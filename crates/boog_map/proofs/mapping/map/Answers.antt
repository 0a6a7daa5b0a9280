use Rattle.std.proofs.Common.{All}
use Rattle.cell_model.specs.Usable.{IsFormed}
use Rattle.cell_model.specs.Connectors.{PinsAreConnectors}
use Rattle.cell_pins.proofs.Sound.{connected}
use Rattle.boog_map.proofs.Given.{of_library}
use Rattle.boog_map.proofs.mapping.map.Goals as goal

pub first_missing-requires-clause-formed : goal.first_missing-requires-clause-formed
first_missing-requires-clause-formed c = of_library c.cells.result.now c.args.library.now c.cells.ensures.value (All IsFormed) c.cells.ensures.checked.formed

pub first_missing-requires-clause-connectors : goal.first_missing-requires-clause-connectors
first_missing-requires-clause-connectors c =
    of_library c.cells.result.now c.args.library.now c.cells.ensures.value (All PinsAreConnectors) (connected c.args.library.now c.cells.ensures.checked)
