use Rattle.vbe_writable.proofs.Stored.{registers_are_named}
use Rattle.vbe_writable.proofs.laws.registers_are_named.Goals as goal

pub returns : goal.returns
returns c = registers_are_named
