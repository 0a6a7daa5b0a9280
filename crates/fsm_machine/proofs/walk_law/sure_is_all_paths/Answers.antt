use Rattle.fsm_machine.proofs.Paths.{sure_all}
use Rattle.fsm_machine.proofs.walk_law.sure_is_all_paths.Goals as goal

pub returns : goal.returns
returns c = sure_all
