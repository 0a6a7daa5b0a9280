use Rattle.fsm_laws.proofs.Texts.{each_text}
use Rattle.fsm_laws.proofs.each_text.each_text_has_an_answer.Goals as goal

pub returns : goal.returns
returns c = each_text
