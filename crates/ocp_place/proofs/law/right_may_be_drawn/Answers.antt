use Rattle.ocp_place.proofs.RightOnes.{right_may_be_drawn}
use Rattle.ocp_place.proofs.law.right_may_be_drawn.Goals as goal

pub returns : goal.returns
returns c = right_may_be_drawn
