use Rattle.route_draw.specs.GridPieces.{marks_of}
use Rattle.route_draw.proofs.Lists.{one_step}
use Rattle.route_draw.proofs.grid_nets.push_all_marks.Goals as goal

pub loop-k-preserved : goal.loop-k-preserved
loop-k-preserved c =
    one_step marks_of c.args.nets.now c.loop-k.k c.index-nets-k.result _ c.loop-k.items _ c.loop-k-test.true c.index-nets-k.is c.in_ok-push_net_marks.ensures c.loop-k.invariant
