use Rattle.std.proofs.Common.{rules, arith}
use Rattle.std.proofs.lemmas.Grind.{common_steps}
use Rattle.ocp_place.proofs.row.Row.put.Goals as goal

pub loop-pin-preserved : goal.loop-pin-preserved
loop-pin-preserved c = record {
  sites = grind (arith, common_steps);
  near = λ h. c.in_ok-push_site.ensures.near (c.loop-pin.invariant.near h);
  drivers = grind (arith, common_steps);
  width = search rules;
  starts = search rules;
}
