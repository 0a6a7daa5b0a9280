use Rattle.std.proofs.Common.{arith}
use Rattle.std.proofs.lemmas.Int.{ints}
use Rattle.real_boxes.proofs.Reaches.{shortened_up, shortened_level}
use Rattle.real_boxes.proofs.mark.shortened.Goals as goal

pub returns-then-upright : goal.returns-then-upright
returns-then-upright c =
    let overhang = c.from-overhang.ensures in
    shortened_up c.args.upright c.args.rect.now _ _ _ _ c.if-upright.true (omega (arith, ints)) (omega (arith, ints, overhang)) (omega (arith, ints)) (omega (arith, ints, overhang))

pub returns-else-upright : goal.returns-else-upright
returns-else-upright c =
    let overhang = c.from-overhang.ensures in
    shortened_level c.args.upright c.args.rect.now _ _ _ _ c.if-upright.false (omega (arith, ints, overhang)) (omega (arith, ints)) (omega (arith, ints, overhang)) (omega (arith, ints))
