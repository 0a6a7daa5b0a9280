use Rattle.std.proofs.Common.{map}
use Rattle.proof_joint.specs.Clock.{name_place}
use Rattle.proof_joint.proofs.Clocks.{place_found, place_passed}
use Rattle.proof_joint.proofs.clock.name_place.Goals as goal

pub returns-then-is_same : goal.returns-then-is_same
returns-then-is_same c =
    place_found c.args.wanted.now c.args.names.now c.loop-k.k c.index-names-k.result c.loop-k-test.true c.index-names-k.is
    (name_place c.args.wanted.now (map (λ n. n.now) c.args.names.now)) (c.is_same.ensures.0 c.if-is_same.true) c.loop-k.invariant

pub loop-k-preserved : goal.loop-k-preserved
loop-k-preserved c =
    place_passed c.args.wanted.now c.args.names.now c.loop-k.k c.index-names-k.result c.loop-k-test.true c.index-names-k.is
    (name_place c.args.wanted.now (map (λ n. n.now) c.args.names.now)) (λ e. let t = c.is_same.ensures.1 e in let f = c.if-is_same.false in cc (t, f)) c.loop-k.invariant
