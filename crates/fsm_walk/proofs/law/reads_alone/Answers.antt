use Rattle.fsm_walk.proofs.Reading.{alone}
use Rattle.fsm_walk.proofs.law.reads_alone.Goals as goal

pub returns : goal.returns
returns c = alone
