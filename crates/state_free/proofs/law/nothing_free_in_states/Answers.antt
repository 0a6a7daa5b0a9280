use Rattle.state_free.proofs.Running.{nothing_free}
use Rattle.state_free.proofs.law.nothing_free_in_states.Goals as goal

pub returns : goal.returns
returns c = nothing_free
