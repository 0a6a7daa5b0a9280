use Rattle.catal.proofs.Once.{none_refused}
use Rattle.catal.proofs.laws.none_refused.Goals as goal

pub returns : goal.returns
returns c = none_refused
