use Rattle.cell_match.proofs.Numbers.{times_some}
use Rattle.cell_match.proofs.pair.arranged.Goals as goal

pub bounds-nodes-place : goal.bounds-nodes-place
bounds-nodes-place c = c.requires.within _ (times_some c.args.order.now c.loop-place.place-index c.loop-place-test.true)
