use Rattle.route_draw.proofs.GridWritten.{marked_grid_written}
use Rattle.route_draw.proofs.law.marked_drawing_can_be_written.Goals as goal

pub returns : goal.returns
returns c = marked_grid_written c.placements_are_in_rows.ensures c.points_are_apart.ensures
