use Rattle.fsm_merge.proofs.Fewest.{none_fewer}
use Rattle.fsm_merge.proofs.law.none_has_fewer.Goals as goal

pub returns : goal.returns
returns c = none_fewer
