use Rattle.machine_core.proofs.Built.{built_settles}
use Rattle.machine_core.proofs.law.built_settles.Goals as goal

pub returns : goal.returns
returns c = built_settles
