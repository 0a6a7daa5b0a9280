use Rattle.std.proofs.Common.{◌≡◌, ◌++◌, drop}
use Rattle.route_draw.specs.GridPieces.{mark_lines}
use Rattle.route_draw.proofs.grid_nets.push_all_marks.Given as goal

abbrev pub invariant-loop-k : goal.invariant-loop-k
invariant-loop-k l = l.items ++ mark_lines l.k (drop l.k l.nets) ≡ l.initial.items ++ mark_lines 0 l.nets
