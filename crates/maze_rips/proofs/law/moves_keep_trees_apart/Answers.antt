use Rattle.maze_rips.proofs.Apart.{moves_apart}
use Rattle.maze_rips.proofs.law.moves_keep_trees_apart.Goals as goal

pub returns : goal.returns
returns c = moves_apart
