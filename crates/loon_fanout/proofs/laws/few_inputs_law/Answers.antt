use Rattle.loon_fanout.proofs.FewInputs.{right_has_few_inputs}
use Rattle.loon_fanout.proofs.Remaining.{buffered_has_few_inputs}
use Rattle.loon_fanout.proofs.laws.few_inputs_law.Goals as goal

pub returns-clause-right : goal.returns-clause-right
returns-clause-right c = right_has_few_inputs

pub returns-clause-buffered : goal.returns-clause-buffered
returns-clause-buffered c = buffered_has_few_inputs
