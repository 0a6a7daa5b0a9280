use Rattle.loon_fanout.proofs.Picking.{twice_of}
use Rattle.scan_checks.proofs.order.roll_of.Goals as goal

pub returns : goal.returns
returns c = c.in_ok-learn_all.ensures.same c.new-roll.ensures (twice_of c.args.names.now c.requires)
