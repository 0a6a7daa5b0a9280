use Rattle.loon_fanout.proofs.Passing.{buffered_passes}
use Rattle.loon_fanout.proofs.laws.passes_law.Goals as goal

pub returns : goal.returns
returns c = buffered_passes
