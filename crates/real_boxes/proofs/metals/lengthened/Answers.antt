use Rattle.std.proofs.Common.{arith}
use Rattle.std.proofs.lemmas.Int.{ints}
use Rattle.real_boxes.proofs.Beside.{lengthened_up, lengthened_level}
use Rattle.real_boxes.proofs.metals.lengthened.Goals as goal

pub returns-then-upright : goal.returns-then-upright
returns-then-upright c =
    let overhang = c.from-overhang.ensures in
    lengthened_up c.args.upright c.args.core.now _ _ _ _ c.if-upright.true (omega (arith, ints)) (omega (arith, ints, overhang)) (omega (arith, ints)) (omega (arith, ints, overhang))

pub returns-else-upright : goal.returns-else-upright
returns-else-upright c =
    let overhang = c.from-overhang.ensures in
    lengthened_level c.args.upright c.args.core.now _ _ _ _ c.if-upright.false (omega (arith, ints, overhang)) (omega (arith, ints)) (omega (arith, ints, overhang)) (omega (arith, ints))
