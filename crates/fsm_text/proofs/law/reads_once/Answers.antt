use Rattle.fsm_text.proofs.Laws.{one_machine}
use Rattle.fsm_text.proofs.law.reads_once.Goals as goal

pub returns : goal.returns
returns c = one_machine
