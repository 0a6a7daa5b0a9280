use Rattle.machine_free.proofs.Greater.{greater}
use Rattle.machine_free.proofs.law.free_is_greater.Goals as goal

pub returns : goal.returns
returns c = greater
