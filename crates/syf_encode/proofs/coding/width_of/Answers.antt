use Rattle.std.proofs.Common.{◌^◌, ◌<◌, ◌∙◌, arith}
use Rattle.std.proofs.lemmas.Nat.{one_shl}
use Rattle.syf_encode.proofs.Widths.{width_step, width_below}
use Rattle.syf_encode.proofs.coding.width_of.Goals as goal

pub loop-width-preserved : goal.loop-width-preserved
loop-width-preserved c =
    let few = c.loop-width.invariant.few in
    let shifted = one_shl c.loop-width.width 64 (omega arith) in
    let room : 2 ^ c.loop-width.width < c.args.count = omega (arith, c.loop-width-test.true) in
    let below = width_below c.args.count c.loop-width.width c.requires few room in
    record {
      few = omega arith;
      same = width_step c.args.count c.loop-width.width room ∙ c.loop-width.invariant.same;
    }
