use Rattle.fsm_print.proofs.Reading.{is_accepted}
use Rattle.fsm_print.proofs.read_again.fsm_is_accepted.Goals as goal

pub returns : goal.returns
returns c = is_accepted c.written_is_a_sentence.ensures c.never_both.ensures
