use Rattle.asimut_sim.proofs.ColumnLemmas.{range-up, range-down}
use Rattle.asimut_sim.proofs.columns.push_range.Goals as goal

pub returns-then-range : goal.returns-then-range
returns-then-range c = rw (range-up c.args.range c.if-range.true) c.push_rising.ensures

pub returns-else-range : goal.returns-else-range
returns-else-range c = rw (range-down c.args.range c.if-range.false) c.push_falling.ensures
