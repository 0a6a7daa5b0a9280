use Rattle.std.proofs.Common.{◌<◌, length, get_or, refl, arith}
use Rattle.std.proofs.lemmas.List.{get_or_default}
use Rattle.loon_buffer.proofs.Listing.{same_next, other_here}
use Rattle.loon_buffer.proofs.drive.same_pins.Goals as goal

pub returns-then-not-same_port : goal.returns-then-not-same_port
returns-then-not-same_port c =
    let e = c.if-one-other.false in
    let l = c.loop-k-test.true in
    let m : c.loop-k.k < length c.args.other.now = omega (arith, e, l) in (
      (λ h. absurd cc),
      (λ same. c.if-not-same_port.ensures.1
          (other_here c.args.one.now c.args.other.now c.loop-k.k (get_or c.args.one.now c.loop-k.k c.index-one-k.result) (get_or c.args.other.now c.loop-k.k c.index-other-k.result) l m
          (get_or_default c.args.one.now c.loop-k.k c.index-one-k.result (get_or c.args.one.now c.loop-k.k c.index-one-k.result) l)
          (get_or_default c.args.other.now c.loop-k.k c.index-other-k.result (get_or c.args.other.now c.loop-k.k c.index-other-k.result) m) same)),
    )

pub loop-k-preserved : goal.loop-k-preserved
loop-k-preserved c =
    let e = c.if-one-other.false in
    let l = c.loop-k-test.true in
    let m : c.loop-k.k < length c.args.other.now = omega (arith, e, l) in
    same_next c.args.one.now c.args.other.now c.loop-k.k (get_or c.args.one.now c.loop-k.k c.index-one-k.result) (get_or c.args.other.now c.loop-k.k c.index-other-k.result) l m
    (get_or_default c.args.one.now c.loop-k.k c.index-one-k.result (get_or c.args.one.now c.loop-k.k c.index-one-k.result) l)
    (get_or_default c.args.other.now c.loop-k.k c.index-other-k.result (get_or c.args.other.now c.loop-k.k c.index-other-k.result) m) (c.if-not-same_port.ensures.0 refl) c.loop-k.invariant
