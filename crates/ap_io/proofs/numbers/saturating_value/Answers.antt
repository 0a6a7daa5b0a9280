use Rattle.std.proofs.Common.{arith, rules}
use Rattle.ap_io.proofs.Saturating.{value_from_more}
use Rattle.ap_io.proofs.numbers.saturating_value.Goals as goal

pub loop-digit-preserved : goal.loop-digit-preserved
loop-digit-preserved c = (
  omega arith,
  value_from_more c.args.digits.now c.loop-digit.digit-index c.loop-digit.value c.saturating_add-value.result c.loop-digit-test.true (search rules) c.loop-digit.invariant.1,
)
