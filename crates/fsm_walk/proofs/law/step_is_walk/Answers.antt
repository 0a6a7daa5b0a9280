use Rattle.fsm_walk.proofs.Trailing.{step_walk}
use Rattle.fsm_walk.proofs.law.step_is_walk.Goals as goal

pub returns : goal.returns
returns c = step_walk
