use Rattle.fsm_print.proofs.Reading.{read_again}
use Rattle.fsm_print.proofs.read_again.fsm_read_again.Goals as goal

pub returns : goal.returns
returns c = read_again c.written_is_a_sentence.ensures c.one_fsm.ensures
