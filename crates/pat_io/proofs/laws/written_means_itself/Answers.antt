use Rattle.pat_io.proofs.Written.{written_means_itself}
use Rattle.pat_io.proofs.laws.written_means_itself.Goals as goal

pub returns : goal.returns
returns c = written_means_itself
