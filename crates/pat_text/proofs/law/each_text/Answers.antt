use Rattle.pat_text.proofs.Laws.{each_file}
use Rattle.pat_text.proofs.law.each_text.Goals as goal

pub returns : goal.returns
returns c = each_file
