use Rattle.ocp_grid.proofs.InRows.{placements_are_in_rows}
use Rattle.ocp_grid.proofs.law.placements_are_in_rows.Goals as goal

pub returns : goal.returns
returns c = placements_are_in_rows
