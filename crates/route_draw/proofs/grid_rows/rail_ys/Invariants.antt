use Rattle.std.proofs.Common.{◌≡◌, ◌≤◌, All, length}
use Rattle.route_draw.specs.GridPieces.{rail_ys_from}
use Rattle.route_draw.proofs.grid_rows.rail_ys.Given as goal

abbrev pub invariant-loop-row : goal.invariant-loop-row
invariant-loop-row l = record {
  value : l.ys.items ≡ rail_ys_from l.upright l.turned 0 l.row;
  many : length l.ys.items ≡ l.row;
  near : All (λ y. y ≤ 200000000000000) l.ys.items;
}
