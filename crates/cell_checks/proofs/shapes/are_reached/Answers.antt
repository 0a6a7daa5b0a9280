use Rattle.std.proofs.Common.{rules, arith}
use Rattle.cell_model.specs.declared.cell.Pin.{Pin}
use Rattle.cell_model.proofs.KindLemmas.{told, denied}
use Rattle.cell_checks.specs.Shapes.{HasReach}
use Rattle.cell_checks.proofs.Loops.{one_more, not_at}
use Rattle.cell_checks.proofs.shapes.are_reached.Goals as goal

pub returns-then-not-is_reached : goal.returns-then-not-is_reached
returns-then-not-is_reached c = (
  λ h. absurd (search (rules, h)),
  λ all. absurd (not_at (λ (p : Pin). HasReach c.args.shapes.now p.port.name) c.args.pins.now c.loop-pin.pin-index c.pin-item.result (omega arith) c.pin-item.is
      (denied c.is_reached.result c.is_reached.ensures (search rules)) all),
)

pub loop-pin-preserved : goal.loop-pin-preserved
loop-pin-preserved c =
    one_more (λ (p : Pin). HasReach c.args.shapes.now p.port.name) c.args.pins.now c.loop-pin.pin-index c.pin-item.result c.loop-pin.invariant (omega arith) c.pin-item.is
    (told c.is_reached.result c.is_reached.ensures (search rules))
