use Rattle.std.proofs.Common.{refl, arith}
use Rattle.loon_fanout.proofs.Adding.{stands_get}
use Rattle.loon_fanout.proofs.Long.{none_long}
use Rattle.loon_fanout.proofs.limit.is_crowded.Goals as goal

pub returns-then-len-limit : goal.returns-then-len-limit
returns-then-len-limit c =
    let test = c.if-len-limit.true in
    let size = c.len.ensures in
    let many = c.sinks-item.result.ok in
    let stands = stands_get c.args.loads.now c.loop-sinks.sinks-index c.sinks-item.result c.loop-sinks-test.true c.sinks-item.is in
    (λ h. (c.loop-sinks.sinks-index, c.sinks-item.result, stands, grind (arith, test, size, many)), λ h. refl)

pub returns : goal.returns
returns c =
    (λ h. absurd (cc h), λ h. absurd (none_long c.args.loads.now c.args.limit c.loop-sinks.sinks-index c.loop-sinks-test.false c.loop-sinks.invariant h))
