use Rattle.pat_print.proofs.Again.{written_is_read_again}
use Rattle.pat_print.proofs.read_again.written_is_read_again.Goals as goal

pub returns : goal.returns
returns c = written_is_read_again
