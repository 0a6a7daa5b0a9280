use Rattle.vbe_laws.proofs.Reading.{read_again}
use Rattle.vbe_laws.proofs.round.read_again.Goals as goal

pub returns : goal.returns
returns c = read_again
