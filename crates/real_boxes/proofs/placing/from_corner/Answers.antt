use Rattle.std.proofs.Common.{arith}
use Rattle.std.proofs.lemmas.Int.{ints}
use Rattle.cougar_extract.proofs.Reaches.{from_corner}
use Rattle.real_boxes.proofs.placing.from_corner.Goals as goal

pub returns : goal.returns
returns c = from_corner c.args.rect.now c.args.corner.now _ _ _ _ (omega (arith, ints)) (omega (arith, ints)) (omega (arith, ints)) (omega (arith, ints))
