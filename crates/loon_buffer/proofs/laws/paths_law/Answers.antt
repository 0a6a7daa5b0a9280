use Rattle.loon_buffer.proofs.Staying.{steps_stay, paths_stay}
use Rattle.loon_buffer.proofs.laws.paths_law.Goals as goal

pub returns : goal.returns
returns c = record { steps = steps_stay; paths = paths_stay }
