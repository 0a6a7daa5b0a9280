use Rattle.std.proofs.Common.{arith}
use Rattle.std.proofs.lemmas.Int.{ints}
use Rattle.real_boxes.proofs.Beside.{padded_is}
use Rattle.real_boxes.proofs.metals.pad.Goals as goal

pub returns : goal.returns
returns c =
    let half = c.from-half.ensures in
    padded_is c.args.core.now _ _ _ _ (omega (arith, ints, half)) (omega (arith, ints, half)) (omega (arith, ints, half)) (omega (arith, ints, half))
