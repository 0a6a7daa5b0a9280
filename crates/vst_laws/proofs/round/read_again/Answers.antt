use Rattle.vst_laws.proofs.Written.{read_again}
use Rattle.vst_laws.proofs.round.read_again.Goals as goal

pub returns : goal.returns
returns c = read_again
