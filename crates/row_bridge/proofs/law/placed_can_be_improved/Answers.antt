use Rattle.row_bridge.proofs.Blocks.{placed_can_be_improved}
use Rattle.row_bridge.proofs.law.placed_can_be_improved.Goals as goal

pub returns : goal.returns
returns c = placed_can_be_improved
