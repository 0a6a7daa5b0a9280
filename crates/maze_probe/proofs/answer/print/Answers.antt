use Rattle.std.proofs.Common.{◌≡◌, ◌*◌, ◌-◌, ◌≤◌, length, ap, ◌∙◌, arith}
use Rattle.maze_nets.specs.declared.points.NetPoints.{NetPoints}
use Rattle.std.specs.Prelude.{List}
use Rattle.maze_probe.proofs.Few.{few_nets}
use Rattle.maze_probe.proofs.answer.print.Goals as goal

pub route_nets-requires-clause-few : goal.route_nets-requires-clause-few
route_nets-requires-clause-few g c =
    let trial = c.args.trial.now in
    let tall : 3 ≤ trial.grid.metals = trial.high in
    let few = few_nets trial.nets trial.pins (trial.grid.columns * trial.grid.rows) (trial.grid.metals - 1) trial.some (omega (arith, tall)) trial.room trial.few_nodes in
    let many : length c.deref.result.now ≡ trial.nets = ap (λ (nets : List NetPoints). length nets) c.deref.ensures.value ∙ c.in_ok-nets.ensures.many in
    omega (arith, many, few)
