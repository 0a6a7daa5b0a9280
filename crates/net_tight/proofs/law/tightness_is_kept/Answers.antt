use Rattle.net_tight.proofs.Kept.{kept}
use Rattle.net_tight.proofs.law.tightness_is_kept.Goals as goal

pub returns : goal.returns
returns c = kept
