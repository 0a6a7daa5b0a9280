use Rattle.std.proofs.Common.{arith}
use Rattle.std.proofs.lemmas.Nat.{row_fits}
use Rattle.maze_probe.proofs.Building.{built_more}
use Rattle.maze_probe.proofs.nets.nets_on.Goals as goal

pub loop-at-preserved : goal.loop-at-preserved
loop-at-preserved c =
    rw c.in_ok-push.ensures.items (built_more c.args.trial.now.grid.columns c.args.trial.now.pins c.args.places.now c.loop-at.at c.loop-at.nets.items c.in_ok-net_on.field-0
    (omega (arith, c.requires, row_fits c.loop-at.at c.args.trial.now.pins c.args.trial.now.nets c.args.trial.now.pins (omega (arith, c.loop-at-test.true)) (omega arith))) c.loop-at.invariant
    c.in_ok-net_on.ensures.port c.in_ok-net_on.ensures.terminals)
