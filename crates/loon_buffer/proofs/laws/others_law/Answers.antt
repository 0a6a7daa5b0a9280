use Rattle.loon_buffer.proofs.Exchanging.{others}
use Rattle.loon_buffer.proofs.laws.others_law.Goals as goal

pub returns : goal.returns
returns c = others
