use Rattle.bdd_core.proofs.Held.{held_value}
use Rattle.bdd_core.proofs.laws.held_is_value.Goals as goal

pub returns : goal.returns
returns c = held_value
