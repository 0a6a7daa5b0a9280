use Rattle.vbe_writable.proofs.Running.{in_order}
use Rattle.vbe_writable.proofs.laws.in_order_can_be_written.Goals as goal

pub returns : goal.returns
returns c = in_order
