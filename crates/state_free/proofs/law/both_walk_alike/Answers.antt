use Rattle.state_free.proofs.Laws.{both_walk_alike}
use Rattle.state_free.proofs.law.both_walk_alike.Goals as goal

pub returns : goal.returns
returns c = both_walk_alike
