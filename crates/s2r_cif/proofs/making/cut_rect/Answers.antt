use Rattle.std.proofs.Common.{arith}
use Rattle.std.proofs.lemmas.Int.{ints}
use Rattle.s2r_cif.proofs.Cutting.{cut_square}
use Rattle.s2r_cif.proofs.making.cut_rect.Goals as goal

pub returns-clause-value : goal.returns-clause-value
returns-clause-value c = cut_square c.args.via.now.x c.args.via.now.y _ _ _ _ (omega (arith, ints)) (omega (arith, ints)) (omega (arith, ints)) (omega (arith, ints))
