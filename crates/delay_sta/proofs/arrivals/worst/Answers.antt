use Rattle.std.proofs.Common.{ap, length, arith}
use Rattle.delay_sta.proofs.Edges.{worst_all}
use Rattle.delay_sta.proofs.arrivals.worst.Goals as goal

pub returns : goal.returns
returns c = λ n l sound are.
    let e = c.deref-class-items.ensures.value in
    let t = c.loop-class-test.false in
    let m = ap length e in
    worst_all n l c.args.delays.now c.loop-class.class-index c.loop-class.worst sound are (omega (arith, m, t)) c.loop-class.invariant
