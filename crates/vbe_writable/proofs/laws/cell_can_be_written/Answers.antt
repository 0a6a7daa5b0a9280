use Rattle.vbe_writable.proofs.Named.{cell_can_be_written}
use Rattle.vbe_writable.proofs.laws.cell_can_be_written.Goals as goal

pub returns : goal.returns
returns c = cell_can_be_written
