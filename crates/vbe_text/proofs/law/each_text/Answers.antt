use Rattle.vbe_text.proofs.Laws.{each_source}
use Rattle.vbe_text.proofs.law.each_text.Goals as goal

pub returns : goal.returns
returns c = each_source
