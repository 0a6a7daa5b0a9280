use Rattle.bdd_core.proofs.Held.{truths_value}
use Rattle.bdd_core.proofs.laws.truths_is_value.Goals as goal

pub returns : goal.returns
returns c = truths_value
