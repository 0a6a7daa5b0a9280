use Rattle.fsm_free.proofs.Alike as alike
use Rattle.fsm_free.proofs.laws.refused_alike.Goals as goal

pub returns : goal.returns
returns c = alike.refused_alike
