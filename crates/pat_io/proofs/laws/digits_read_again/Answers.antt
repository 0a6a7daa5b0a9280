use Rattle.pat_io.proofs.Again.{digits_read_again}
use Rattle.pat_io.proofs.laws.digits_read_again.Goals as goal

pub returns : goal.returns
returns c = digits_read_again
