use Rattle.net_right.proofs.Same.{same_by_name}
use Rattle.net_right.proofs.same_by_name_law.Goals as goal

pub returns : goal.returns
returns c = same_by_name
