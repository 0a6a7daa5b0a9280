use Rattle.cell_checks.proofs.PinsApart.{apart_pins, pins_apart}
use Rattle.cell_checks.proofs.layout.pins_are_apart.Goals as goal

pub returns : goal.returns
returns c = (
  λ h. apart_pins c.args.cell.now c.args.shapes.now c.args.names.now c.requires.formed c.requires.connectors c.requires.shapes c.requires.names (c.are_apart.ensures.0 h),
  λ k. c.are_apart.ensures.1 (pins_apart c.args.cell.now c.args.shapes.now c.args.names.now c.requires.formed c.requires.shapes c.requires.names k),
)
