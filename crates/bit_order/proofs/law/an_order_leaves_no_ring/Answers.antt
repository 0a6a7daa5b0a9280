use Rattle.bit_order.proofs.Rounds.{sorted_leaves_no_ring}
use Rattle.bit_order.proofs.law.an_order_leaves_no_ring.Goals as goal

pub returns : goal.returns
returns c = sorted_leaves_no_ring
