use Rattle.vbe_writable.proofs.Named.{cell_is_named}
use Rattle.vbe_writable.proofs.laws.cell_is_named.Goals as goal

pub returns : goal.returns
returns c = cell_is_named
