use Rattle.fsm_walk.proofs.Wording.{words_all}
use Rattle.fsm_walk.proofs.law.words_are_all.Goals as goal

pub returns : goal.returns
returns c = words_all
