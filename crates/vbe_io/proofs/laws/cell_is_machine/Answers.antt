use Rattle.vbe_io.proofs.CellLaws.{cell_is_machine}
use Rattle.vbe_io.proofs.laws.cell_is_machine.Goals as goal

pub returns : goal.returns
returns c = cell_is_machine
