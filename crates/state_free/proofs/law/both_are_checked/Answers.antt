use Rattle.state_free.proofs.Checks.{both_are_checked}
use Rattle.state_free.proofs.law.both_are_checked.Goals as goal

pub returns : goal.returns
returns c = both_are_checked
