use Rattle.loon_fanout.proofs.JoinsNothing.{buffered_joins_nothing}
use Rattle.loon_fanout.proofs.laws.joins_nothing_law.Goals as goal

pub returns : goal.returns
returns c = buffered_joins_nothing
