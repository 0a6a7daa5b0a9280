use Rattle.vbe_laws.proofs.Cells.{cells_say_the_same}
use Rattle.vbe_laws.proofs.one_machine.cells_are_the_same.Goals as goal

pub returns : goal.returns
returns c = cells_say_the_same
