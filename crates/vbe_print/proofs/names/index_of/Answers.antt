use Rattle.vbe_print.proofs.Naming.{looked_up}
use Rattle.vbe_print.proofs.names.index_of.Goals as goal

pub returns : goal.returns
returns c = looked_up c.args.names.now _ _ c.new-index.ensures c.in_ok-insert_all.ensures
