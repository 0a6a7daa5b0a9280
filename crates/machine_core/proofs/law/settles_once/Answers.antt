use Rattle.machine_core.proofs.Known.{known}
use Rattle.machine_core.proofs.Solve.{settles_once_known}
use Rattle.machine_core.proofs.law.settles_once.Goals as goal

pub returns : goal.returns
returns c = λ m s i o. settles_once_known m s i (known m o)
