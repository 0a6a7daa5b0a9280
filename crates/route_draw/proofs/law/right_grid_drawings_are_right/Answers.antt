use Rattle.route_draw.proofs.Right.{right_grid_drawings_are_right}
use Rattle.route_draw.proofs.law.right_grid_drawings_are_right.Goals as goal

pub returns : goal.returns
returns c = right_grid_drawings_are_right
