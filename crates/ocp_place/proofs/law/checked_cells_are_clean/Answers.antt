use Rattle.ocp_place.proofs.Clean.{checked_cells_are_clean}
use Rattle.ocp_place.proofs.law.checked_cells_are_clean.Goals as goal

pub returns : goal.returns
returns c = checked_cells_are_clean
