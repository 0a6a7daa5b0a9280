use Rattle.std.proofs.Common.{◌≡◌, ◌++◌, drop}
use Rattle.route_draw.specs.Pieces.{all_lines}
use Rattle.route_draw.proofs.nets.push_nets.Given as goal

abbrev pub invariant-loop-k : goal.invariant-loop-k
invariant-loop-k l = l.items ++ all_lines l.k l.names l.placement (drop l.k l.tracks) ≡ l.initial.items ++ all_lines 0 l.names l.placement l.tracks
