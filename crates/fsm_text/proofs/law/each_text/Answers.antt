use Rattle.fsm_text.proofs.Laws.{each_machine}
use Rattle.fsm_text.proofs.law.each_text.Goals as goal

pub returns : goal.returns
returns c = each_machine
