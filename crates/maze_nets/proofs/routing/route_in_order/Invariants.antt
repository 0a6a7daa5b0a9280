use Rattle.std.proofs.Common.{take}
use Rattle.std.specs.Prelude.{reverse}
use Rattle.maze_nets.specs.Progress.{HasRouted}
use Rattle.maze_nets.proofs.routing.route_in_order.Given as goal

abbrev pub invariant-loop-net : goal.invariant-loop-net
invariant-loop-net l = HasRouted l.fn.router.occupied.grid l.nets (reverse (take l.net-index l.order)) l.router
