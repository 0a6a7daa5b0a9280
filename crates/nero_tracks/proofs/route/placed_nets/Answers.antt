use Rattle.nero_tracks.proofs.Routed.{classes_inside}
use Rattle.nero_tracks.proofs.route.placed_nets.Goals as goal

pub returns-clause-inside : goal.returns-clause-inside
returns-clause-inside c =
    classes_inside c.args.placement.now c.ports-ports.result.now c.drivers.result.now c.in_ok-classes.classes.items c.ports-ports.ensures.inside c.drivers.ensures.inside c.in_ok-classes.ensures
