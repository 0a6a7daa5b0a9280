use Rattle.pat_io.proofs.Once.{means_once}
use Rattle.pat_io.proofs.laws.means_once.Goals as goal

pub returns : goal.returns
returns c = means_once
