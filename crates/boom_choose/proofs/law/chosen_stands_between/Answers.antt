use Rattle.boom_choose.proofs.Between.{stands_between}
use Rattle.boom_choose.proofs.law.chosen_stands_between.Goals as goal

pub returns : goal.returns
returns c = stands_between
