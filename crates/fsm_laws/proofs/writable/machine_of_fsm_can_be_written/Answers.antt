use Rattle.fsm_laws.proofs.Writing.{can_be_written}
use Rattle.fsm_laws.proofs.writable.machine_of_fsm_can_be_written.Goals as goal

pub returns : goal.returns
returns c = can_be_written c.in_order_can_be_written.ensures c.fsm_is_named.ensures.named
