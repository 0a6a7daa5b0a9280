use Rattle.route_draw.proofs.Written.{drawing_can_be_written}
use Rattle.route_draw.proofs.law.drawing_can_be_written.Goals as goal

pub returns : goal.returns
returns c = drawing_can_be_written
