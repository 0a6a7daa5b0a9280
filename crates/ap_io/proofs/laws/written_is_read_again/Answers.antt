use Rattle.ap_io.proofs.FilesAgain.{written_again}
use Rattle.ap_io.proofs.laws.written_is_read_again.Goals as goal

pub returns : goal.returns
returns c = written_again
