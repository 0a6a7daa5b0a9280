use Rattle.fsm_io.proofs.Whole.{fsm_is_checked}
use Rattle.fsm_io.proofs.laws.fsm_is_checked.Goals as goal

pub returns : goal.returns
returns c = fsm_is_checked
