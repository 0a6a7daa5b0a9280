use Rattle.state_free.proofs.Laws.{same_codes}
use Rattle.state_free.proofs.law.same_codes.Goals as goal

pub returns : goal.returns
returns c = same_codes
