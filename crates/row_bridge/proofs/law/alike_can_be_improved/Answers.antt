use Rattle.row_bridge.proofs.Blocks.{alike_can_be_improved}
use Rattle.row_bridge.proofs.law.alike_can_be_improved.Goals as goal

pub returns : goal.returns
returns c = alike_can_be_improved
