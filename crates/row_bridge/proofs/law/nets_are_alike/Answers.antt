use Rattle.row_bridge.proofs.Nets.{nets_are_alike}
use Rattle.row_bridge.proofs.law.nets_are_alike.Goals as goal

pub returns : goal.returns
returns c = nets_are_alike
