use Rattle.route_draw.proofs.Right.{netlists_are_drawable}
use Rattle.route_draw.proofs.law.netlists_are_drawable.Goals as goal

pub returns : goal.returns
returns c = netlists_are_drawable
