use Rattle.vbe_io.proofs.CellLaws.{cell_never_both}
use Rattle.vbe_io.proofs.laws.cell_never_both.Goals as goal

pub returns : goal.returns
returns c = cell_never_both
