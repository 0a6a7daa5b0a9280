use Rattle.std.proofs.Common.{arith}
use Rattle.std.proofs.lemmas.Grind.{common_steps}
use Rattle.route_draw.proofs.Lists.{rail_ys_more}
use Rattle.route_draw.proofs.grid_rows.rail_ys.Goals as goal

pub loop-row-preserved : goal.loop-row-preserved
loop-row-preserved c = record {
  value = rail_ys_more c.args.upright c.args.turned c.loop-row.row c.rail_y.result c.loop-row.ys.items c.push.new.self.items
      c.in_ok-push.ensures.items c.loop-row.invariant.value c.rail_y.ensures.value;
  many = grind (arith, common_steps);
  near = grind (arith, common_steps);
}
