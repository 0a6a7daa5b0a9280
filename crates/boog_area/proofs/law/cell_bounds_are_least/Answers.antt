use Rattle.boog_area.proofs.Least.{cell_bounds_are_least}
use Rattle.boog_area.proofs.law.cell_bounds_are_least.Goals as goal

pub returns : goal.returns
returns c = cell_bounds_are_least
