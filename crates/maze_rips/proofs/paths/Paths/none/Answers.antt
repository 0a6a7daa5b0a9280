use Rattle.maze_rips.proofs.Keyed.{none_seen}
use Rattle.maze_rips.proofs.paths.Paths.none.Goals as goal

pub returns-clause-none : goal.returns-clause-none
returns-clause-none c = none_seen c.new.result c.in_ok-keys.keys.items c.in_ok-keys.ensures.none
