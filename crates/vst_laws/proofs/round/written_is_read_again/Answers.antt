use Rattle.vst_laws.proofs.Written.{written_is_read_again}
use Rattle.vst_laws.proofs.round.written_is_read_again.Goals as goal

pub returns : goal.returns
returns c = written_is_read_again
