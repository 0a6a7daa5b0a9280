use Rattle.loon_fanout.proofs.Needed.{buffers_are_needed}
use Rattle.loon_fanout.proofs.laws.needed_law.Goals as goal

pub returns : goal.returns
returns c = buffers_are_needed
