use Rattle.fsm_free.proofs.Once as once
use Rattle.fsm_free.proofs.laws.never_both.Goals as goal

pub returns : goal.returns
returns c = once.never_both
