use Rattle.std.proofs.Common.{take}
use Rattle.maze_nets.specs.Nets.{net_reserved}
use Rattle.maze_nets.specs.Progress.{AreReserved}
use Rattle.maze_nets.proofs.reserve.reserve.Given as goal

abbrev pub invariant-loop-net : goal.invariant-loop-net
invariant-loop-net l = AreReserved l.fn.occupied.grid (net_reserved (take l.net l.nets)) l.occupied
