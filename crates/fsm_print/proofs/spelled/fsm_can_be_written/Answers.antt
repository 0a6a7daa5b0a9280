use Rattle.fsm_print.proofs.Writing.{can_be_written}
use Rattle.fsm_print.proofs.spelled.fsm_can_be_written.Goals as goal

pub returns : goal.returns
returns c = can_be_written c.fsm_is_named.ensures.named c.fsm_is_checked.ensures c.in_order_can_be_written.ensures
