use Rattle.vbe_writable.proofs.Named.{machine_is_short, catal_is_short}
use Rattle.vbe_writable.proofs.laws.names_are_short.Goals as goal

pub returns-clause-machine : goal.returns-clause-machine
returns-clause-machine c = machine_is_short

pub returns-clause-catal : goal.returns-clause-catal
returns-clause-catal c = catal_is_short
