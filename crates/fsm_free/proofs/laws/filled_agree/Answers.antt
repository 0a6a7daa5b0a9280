use Rattle.fsm_free.proofs.Bits as bits
use Rattle.fsm_free.proofs.laws.filled_agree.Goals as goal

pub returns : goal.returns
returns c = bits.filled_agree
