use Rattle.std.proofs.Common.{arith}
use Rattle.pat_io.proofs.Counted.{reached_next}
use Rattle.pat_io.proofs.times.time_fault.Goals as goal

pub loop-pattern-preserved : goal.loop-pattern-preserved
loop-pattern-preserved c =
    reached_next c.args.patterns.now c.loop-pattern.pattern-index c.loop-pattern.before c.time_behind-now.result c.pattern-item.result
    c.loop-pattern-test.true c.pattern-item.is c.time_behind-now.ensures.few c.time_behind-now.ensures.time (omega (arith, c.if-now-before.false)) c.loop-pattern.invariant
