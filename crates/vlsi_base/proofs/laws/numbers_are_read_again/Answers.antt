use Rattle.vlsi_base.proofs.Decimal.{decimal_is, decimal_is_numeral}
use Rattle.vlsi_base.proofs.laws.numbers_are_read_again.Goals as goal

pub returns : goal.returns
returns c = λ n h. (decimal_is_numeral n h, (decimal_is n h).value)
