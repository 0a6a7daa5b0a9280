use Rattle.catal.proofs.Once.{never_both}
use Rattle.catal.proofs.laws.never_both.Goals as goal

pub returns : goal.returns
returns c = never_both
