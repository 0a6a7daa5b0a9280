use Rattle.loon_fanout.proofs.Kept.{limited_stays_beside}
use Rattle.loon_fanout.proofs.laws.limited_law.Goals as goal

pub returns : goal.returns
returns c = limited_stays_beside
