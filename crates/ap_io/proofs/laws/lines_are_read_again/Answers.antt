use Rattle.ap_io.proofs.FilesAgain.{lines_again}
use Rattle.ap_io.proofs.laws.lines_are_read_again.Goals as goal

pub returns : goal.returns
returns c = lines_again
