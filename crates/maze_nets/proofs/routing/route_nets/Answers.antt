use Rattle.grid_core.specs.Shown.{tree_in}
use Rattle.maze_nets.proofs.Taking.{all_whole}
use Rattle.maze_nets.proofs.Shown.{ok_then}
use Rattle.maze_nets.proofs.routing.route_nets.Goals as goal

pub returns-clause-whole : goal.returns-clause-whole
returns-clause-whole c = ok_then c.attempts.result (λ r h. all_whole c.args.grid c.args.nets.now (tree_in r) h) c.attempts.ensures.ordered
