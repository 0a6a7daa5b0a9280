use Rattle.ocp_grid.proofs.Apart.{points_are_apart}
use Rattle.ocp_grid.proofs.law.points_are_apart.Goals as goal

pub returns : goal.returns
returns c = points_are_apart
