use Rattle.vst_text.proofs.Laws.{one_structure}
use Rattle.vst_text.proofs.law.reads_once.Goals as goal

pub returns : goal.returns
returns c = one_structure
