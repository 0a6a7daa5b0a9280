use Rattle.vbe_text.proofs.Laws.{one_source}
use Rattle.vbe_text.proofs.law.reads_once.Goals as goal

pub returns : goal.returns
returns c = one_source
