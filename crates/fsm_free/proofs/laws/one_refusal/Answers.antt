use Rattle.fsm_free.proofs.Once as once
use Rattle.fsm_free.proofs.laws.one_refusal.Goals as goal

pub returns : goal.returns
returns c = once.one_refusal
