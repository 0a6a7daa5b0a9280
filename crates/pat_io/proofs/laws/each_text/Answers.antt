use Rattle.pat_io.proofs.Once.{each_text}
use Rattle.pat_io.proofs.laws.each_text.Goals as goal

pub returns : goal.returns
returns c = each_text
