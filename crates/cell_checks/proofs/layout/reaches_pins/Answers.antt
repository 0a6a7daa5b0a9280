use Rattle.std.proofs.Common.{All, subst, sym, List}
use Rattle.cell_model.specs.declared.cell.Pin.{Pin}
use Rattle.cell_checks.specs.Shapes.{HasReach}
use Rattle.cell_checks.proofs.Layouts.{reached, reaching}
use Rattle.cell_checks.proofs.layout.reaches_pins.Goals as goal

pub returns : goal.returns
returns c = (
  λ h. reached c.args.cell.now c.args.shapes.now c.requires.row c.requires.shapes
      (subst (λ (ps : List Pin). All (λ (p : Pin). HasReach c.args.shapes.now p.port.name) ps) c.as_slice.ensures (c.are_reached.ensures.0 h)),
  λ k. c.are_reached.ensures.1
      (subst (λ (ps : List Pin). All (λ (p : Pin). HasReach c.args.shapes.now p.port.name) ps) (sym c.as_slice.ensures)
      (reaching c.args.cell.now c.args.shapes.now c.requires.row c.requires.shapes k)),
)
