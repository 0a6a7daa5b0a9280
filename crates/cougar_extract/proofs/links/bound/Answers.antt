use Rattle.std.proofs.Common.{arith}
use Rattle.cougar_extract.proofs.ShownSteps.{bound_next, bound_whole}
use Rattle.cougar_extract.proofs.links.bound.Goals.{then-link-bound, else-link-bound}
use Rattle.cougar_extract.proofs.links.bound.Goals as goal

pub loop-link-preserved : goal.loop-link-preserved
loop-link-preserved c =
    let links = c.args.links.now in
    let k = c.loop-link.link-index in
    let low = c.loop-link-test.true in
    elim c.if-link-bound.branch [
      | then-link-bound w ↦
          bound_next links k c.link-item.result c.loop-link.bound c.if-link-bound.bound low c.loop-link.invariant (omega (arith, w.bound-is, w.if-link-bound.true))
          c.link-item.is (omega (arith, w.bound-is))
      | else-link-bound w ↦
          bound_next links k c.link-item.result c.loop-link.bound c.if-link-bound.bound low c.loop-link.invariant (omega (arith, w.bound-is))
          c.link-item.is (omega (arith, w.bound-is, w.if-link-bound.false))
    ]

pub returns : goal.returns
returns c = bound_whole c.args.links.now c.loop-link.link-index c.loop-link.bound (omega (arith, c.loop-link-test.false)) c.loop-link.invariant
