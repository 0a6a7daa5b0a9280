use Rattle.machine_free.proofs.Choosing.{each_run_may}
use Rattle.machine_free.proofs.law.each_run_may.Goals as goal

pub returns : goal.returns
returns c = each_run_may
