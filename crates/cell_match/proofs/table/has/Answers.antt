use Rattle.std.proofs.Common.{rules}
use Rattle.cell_match.proofs.Numbers.{times_first, times_next}
use Rattle.cell_match.proofs.table.has.Goals as goal

pub returns-then-other-place : goal.returns-then-other-place
returns-then-other-place c = (λ _. times_first c.args.place c.args.order.now c.loop-other.other-index c.loop-other-test.true c.if-other-place.true, λ _. search rules)

pub loop-other-preserved : goal.loop-other-preserved
loop-other-preserved c = times_next c.args.place c.args.order.now c.loop-other.other-index c.loop-other-test.true c.if-other-place.false c.loop-other.invariant
