use Rattle.fsm_io.proofs.Once.{one_fsm}
use Rattle.fsm_io.proofs.laws.one_fsm.Goals as goal

pub returns : goal.returns
returns c = one_fsm
