use Rattle.vbe_free.proofs.Single.{not_single}
use Rattle.vbe_free.proofs.misplaced.only_bit.Goals as goal

pub returns-else-range : goal.returns-else-range
returns-else-range c = not_single c.args.range c.in-Some.range c.in-Some.is (λ e. c.if-range.false e)
