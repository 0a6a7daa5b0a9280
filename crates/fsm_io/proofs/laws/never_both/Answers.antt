use Rattle.fsm_io.proofs.Once.{never_both}
use Rattle.fsm_io.proofs.laws.never_both.Goals as goal

pub returns : goal.returns
returns c = never_both
