use Rattle.boog_tree.proofs.Covering.{bounds_are_least}
use Rattle.boog_tree.proofs.law.bounds_are_least.Goals as goal

pub returns : goal.returns
returns c = bounds_are_least
