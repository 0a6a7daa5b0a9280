use Rattle.vbe_writable.proofs.Named.{machine_is_named}
use Rattle.vbe_writable.proofs.laws.machine_is_named.Goals as goal

pub returns : goal.returns
returns c = machine_is_named
