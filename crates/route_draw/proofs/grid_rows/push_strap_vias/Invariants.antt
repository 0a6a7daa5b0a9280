use Rattle.std.proofs.Common.{◌≡◌, ◌++◌, map, drop}
use Rattle.std.specs.Prelude.{pos}
use Rattle.ocp_rows.specs.Placement.{strap_vias}
use Rattle.route_draw.proofs.grid_rows.push_strap_vias.Given as goal

abbrev pub invariant-loop-k : goal.invariant-loop-k
invariant-loop-k l = l.items ++ strap_vias (pos l.x) l.name (map pos (drop l.k l.ys)) ≡ l.initial.items ++ strap_vias (pos l.x) l.name (map pos l.ys)
