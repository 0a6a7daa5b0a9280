use Rattle.scan_checks.proofs.Found.{register_made}
use Rattle.scan_checks.proofs.registers.register_of.Goals as goal

pub returns-clause-some : goal.returns-clause-some
returns-clause-some c =
    register_made c.args.cell.now c.args.node.now c.args.classes.now c.requires c.as_enum.result.now c.as_slice.result.now c.in-Some.data.now c.in-Some-output_pin.output.now
    c.in_ok-copy.field-0 c.pin_place-place.result c.pin_place.result c.class_at.result c.class_at-2.result c.as_enum.ensures c.as_slice.ensures c.in-Some.ensures.some
    c.in-Some-output_pin.ensures.some c.in_ok-copy.ensures c.pin_place-place.ensures c.pin_place.ensures c.class_at.ensures c.class_at-2.ensures
