use Rattle.std.proofs.Common.{◌≡◌, ◌++◌, drop}
use Rattle.route_draw.specs.GridPieces.{wired_lines}
use Rattle.route_draw.proofs.grid_nets.push_wired.Given as goal

abbrev pub invariant-loop-k : goal.invariant-loop-k
invariant-loop-k l = l.items ++ wired_lines l.k l.names (drop l.k l.nets) ≡ l.initial.items ++ wired_lines 0 l.names l.nets
