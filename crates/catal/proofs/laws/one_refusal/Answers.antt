use Rattle.catal.proofs.Once.{one_refusal}
use Rattle.catal.proofs.laws.one_refusal.Goals as goal

pub returns : goal.returns
returns c = one_refusal
