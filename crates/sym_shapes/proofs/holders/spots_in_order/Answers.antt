use Rattle.std.proofs.Common.{length}
use Rattle.sym_shapes.proofs.Held.{spots_moved}
use Rattle.sym_shapes.proofs.holders.spots_in_order.Goals as goal

pub returns : goal.returns
returns c = spots_moved (length c.args.shapes.now) c.in_ok-spots.spots.items c.sort.new.self.items c.in_ok-sort.ensures.permutation c.in_ok-spots.ensures
