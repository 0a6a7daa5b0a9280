use Rattle.nero_nets.proofs.Telling.{tells}
use Rattle.nero_nets.proofs.law.marks_tell_nets.Goals as goal

pub returns : goal.returns
returns c = tells
