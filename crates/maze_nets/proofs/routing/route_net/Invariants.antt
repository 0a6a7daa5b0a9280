use Rattle.maze_nets.proofs.Running.{Running}
use Rattle.maze_nets.proofs.routing.route_net.Given as goal

abbrev pub invariant-loop-at : goal.invariant-loop-at
invariant-loop-at l = Running l.fn.router.occupied.grid l.nets l.net l.at l.fn.router l.router
