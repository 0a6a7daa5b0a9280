use Rattle.fsm_io.proofs.Once.{one_refusal}
use Rattle.fsm_io.proofs.laws.one_refusal.Goals as goal

pub returns : goal.returns
returns c = one_refusal
