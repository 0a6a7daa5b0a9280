use Rattle.state_free.proofs.Running.{free_runs}
use Rattle.state_free.proofs.law.free_runs_exist.Goals as goal

pub returns : goal.returns
returns c = free_runs c.assigned_is_known.ensures
