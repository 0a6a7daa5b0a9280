use Rattle.fsm_text.proofs.Laws.{never_both}
use Rattle.fsm_text.proofs.law.never_both.Goals as goal

pub returns : goal.returns
returns c = never_both
