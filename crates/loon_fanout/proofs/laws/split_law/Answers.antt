use Rattle.loon_fanout.proofs.Splitting.{group_is_split}
use Rattle.loon_fanout.proofs.laws.split_law.Goals as goal

pub returns : goal.returns
returns c = group_is_split
