use Rattle.vbe_writable.proofs.Named.{machine_can_be_written}
use Rattle.vbe_writable.proofs.laws.machine_can_be_written.Goals as goal

pub returns : goal.returns
returns c = machine_can_be_written
