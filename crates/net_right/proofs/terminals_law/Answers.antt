use Rattle.net_right.proofs.Terminals.{terminals_are_there}
use Rattle.net_right.proofs.terminals_law.Goals as goal

pub returns : goal.returns
returns c = terminals_are_there
