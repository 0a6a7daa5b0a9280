use Rattle.std.proofs.Common.{refl}
use Rattle.proof_joint.proofs.Spreading.{spreads_more, all_spread}
use Rattle.proof_joint.proofs.differing.spread_bits.Goals as goal

pub loop-k-preserved : goal.loop-k-preserved
loop-k-preserved c =
    spreads_more c.args.order.now c.args.bits.now c.args.count c.loop-k.k _ _ c.loop-k.spread.items c.requires.different c.loop-k-test.true refl
    (c.requires.within c.loop-k.k 0 c.loop-k-test.true) refl c.loop-k.invariant

pub returns-clause-spread : goal.returns-clause-spread
returns-clause-spread c = all_spread c.args.order.now c.args.bits.now c.args.count c.loop-k.k c.loop-k.spread.items c.loop-k-test.false c.loop-k.invariant
