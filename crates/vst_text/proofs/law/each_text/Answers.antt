use Rattle.vst_text.proofs.Laws.{each_structure}
use Rattle.vst_text.proofs.law.each_text.Goals as goal

pub returns : goal.returns
returns c = each_structure
