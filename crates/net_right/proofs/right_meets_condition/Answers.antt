use Rattle.net_right.proofs.Meets.{right_meets_condition}
use Rattle.net_right.proofs.right_meets_condition.Goals as goal

pub returns : goal.returns
returns c = right_meets_condition
