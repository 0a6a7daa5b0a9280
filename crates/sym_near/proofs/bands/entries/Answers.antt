use Rattle.sym_near.proofs.Enters.{swept}
use Rattle.sym_near.proofs.bands.entries.Goals as goal

pub returns : goal.returns
returns c =
    swept c.args.turned c.args.shapes.now c.args.cuts.now c.args.gap c.in_ok-entries.entries.items c.in_ok-entries.ensures.entered c.in_order.new.entries.items
    c.in_ok-entries.ensures.places c.in_order.ensures.same c.in_ok-in_order.ensures.ordered
