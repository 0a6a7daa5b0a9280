use Rattle.fsm_print.proofs.Sentence.{written_is_a_sentence}
use Rattle.fsm_print.proofs.again.written_is_a_sentence.Goals as goal

pub returns : goal.returns
returns c = written_is_a_sentence
