use Rattle.fsm_print.proofs.One.{one_text}
use Rattle.fsm_print.proofs.spelled.one_text.Goals as goal

pub returns : goal.returns
returns c = one_text
