use Rattle.catal.proofs.Once.{one_list}
use Rattle.catal.proofs.laws.one_list.Goals as goal

pub returns : goal.returns
returns c = one_list
