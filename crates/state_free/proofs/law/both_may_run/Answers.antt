use Rattle.state_free.proofs.Running.{both_may_run}
use Rattle.state_free.proofs.law.both_may_run.Goals as goal

pub returns : goal.returns
returns c = both_may_run
