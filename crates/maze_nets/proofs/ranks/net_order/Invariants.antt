use Rattle.std.proofs.Common.{◌≡◌, map, take}
use Rattle.maze_nets.proofs.Ranking.{Ranked, net_of}
use Rattle.maze_nets.proofs.ranks.net_order.Given as goal

abbrev pub invariant-loop-net : goal.invariant-loop-net
invariant-loop-net l = Ranked l.nets l.net l.ranks.items

abbrev pub invariant-loop-rank : goal.invariant-loop-rank
invariant-loop-rank l = l.order.items ≡ map net_of (take l.rank-index l.rank-items)
