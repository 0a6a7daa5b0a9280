use Rattle.route_draw.proofs.GridWritten.{grid_written}
use Rattle.route_draw.proofs.law.grid_drawing_can_be_written.Goals as goal

pub returns : goal.returns
returns c = grid_written c.placements_are_in_rows.ensures
