use Rattle.fsm_merge.proofs.Checked.{merged_checked}
use Rattle.fsm_merge.proofs.law.merged_is_checked.Goals as goal

pub returns : goal.returns
returns c = merged_checked
