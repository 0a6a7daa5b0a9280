use Rattle.std.proofs.Common.{◌++◌, take}
use Rattle.grid_core.specs.Owners.{IsTaken}
use Rattle.maze_nets.specs.Nets.{port_node}
use Rattle.maze_nets.proofs.Reserving.{terminal_nodes}
use Rattle.maze_nets.proofs.reserve.reserve_net.Given as goal

abbrev pub invariant-loop-node : goal.invariant-loop-node
invariant-loop-node l = IsTaken l.fn.occupied l.net (port_node l.points.port ++ terminal_nodes (take l.node-index l.points.terminals.items)) l.occupied
