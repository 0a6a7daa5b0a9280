use Rattle.std.proofs.Common.{rules, sym}
use Rattle.asimut_sim.proofs.ColumnLemmas.{length-up, length-down}
use Rattle.asimut_sim.proofs.columns.bits_of.Goals as goal

pub returns-then-range : goal.returns-then-range
returns-then-range c = sym (length-up c.args.range (search rules))

pub returns-else-range : goal.returns-else-range
returns-else-range c = sym (length-down c.args.range (search rules))
