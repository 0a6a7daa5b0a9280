use Rattle.std.proofs.Common.{◌≡◌, ◌++◌, drop}
use Rattle.route_draw.specs.GridPieces.{row_rails}
use Rattle.route_draw.proofs.grid_rows.push_rails.Given as goal

abbrev pub invariant-loop-k : goal.invariant-loop-k
invariant-loop-k l = l.items ++ row_rails l.end (drop l.k l.low) (drop l.k l.high) ≡ l.initial.items ++ row_rails l.end l.low l.high
