use Rattle.machine_free.proofs.Same.{nothing_free}
use Rattle.machine_free.proofs.law.nothing_free.Goals as goal

pub returns : goal.returns
returns c = nothing_free
