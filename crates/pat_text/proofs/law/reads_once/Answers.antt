use Rattle.pat_text.proofs.Laws.{one_file}
use Rattle.pat_text.proofs.law.reads_once.Goals as goal

pub returns : goal.returns
returns c = one_file
