use Rattle.vbe_writable.proofs.Supplied.{pins_are_named}
use Rattle.vbe_writable.proofs.laws.pins_are_named.Goals as goal

pub returns : goal.returns
returns c = pins_are_named
