use Rattle.fsm_text.proofs.Laws.{one_refusal}
use Rattle.fsm_text.proofs.law.one_refusal.Goals as goal

pub returns : goal.returns
returns c = one_refusal
