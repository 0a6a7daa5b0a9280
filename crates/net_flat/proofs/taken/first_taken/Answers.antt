use Rattle.net_flat.proofs.Taking.{first_same}
use Rattle.net_flat.proofs.taken.first_taken.Goals as goal

pub returns : goal.returns
returns c = first_same c.args.names.now c.args.ports.now c.deref.result.now c.in_ok-index.index c.first_in.result (c.deref.ensures.value) c.in_ok-texts.ensures c.in_ok-index.ensures c.first_in.ensures
