use Rattle.std.proofs.Common.{◌∙◌}
use Rattle.cell_pins.proofs.Ports.{few_ports}
use Rattle.cell_pins.proofs.table.model_of.Goals as goal

pub pins_of-requires : goal.pins_of-requires
pins_of-requires c = few_ports c.args.cell.now c.deref.result.now c.requires.formed c.requires.connectors (c.deref.ensures.value ∙ c.in_ok-ports.ensures)
