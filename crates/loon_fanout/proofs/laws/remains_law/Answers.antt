use Rattle.loon_fanout.proofs.Remaining.{buffered_remains}
use Rattle.loon_fanout.proofs.laws.remains_law.Goals as goal

pub returns : goal.returns
returns c = buffered_remains
