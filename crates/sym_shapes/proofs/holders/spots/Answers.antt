use Rattle.std.proofs.Common.{◌≡◌, ℕ, length, subst, arith}
use Rattle.sym_shapes.specs.Holders.{AreSpots}
use Rattle.sym_shapes.proofs.Held.{spots_more}
use Rattle.sym_shapes.proofs.holders.spots.Goals as goal

pub loop-k-preserved : goal.loop-k-preserved
loop-k-preserved c = rw c.in_ok-push.ensures.items (spots_more c.loop-k.k c.loop-k.spots.items c.spot_of.result c.spot_of.ensures c.loop-k.invariant)

pub returns : goal.returns
returns c =
    let end : c.loop-k.k ≡ length c.args.shapes.now = omega (arith, c.loop-k-test.false, c.loop-k.auto.k-end) in
    subst (λ (n : ℕ). AreSpots n c.loop-k.spots.items) end c.loop-k.invariant
