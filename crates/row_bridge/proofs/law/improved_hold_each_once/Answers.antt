use Rattle.row_bridge.proofs.Improved.{improved_hold_each_once}
use Rattle.row_bridge.proofs.law.improved_hold_each_once.Goals as goal

pub returns : goal.returns
returns c = improved_hold_each_once
