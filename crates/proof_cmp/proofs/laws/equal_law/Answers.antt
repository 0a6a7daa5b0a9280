use Rattle.proof_cmp.proofs.Alike.{equal_alike}
use Rattle.proof_cmp.proofs.laws.equal_law.Goals as goal

pub returns : goal.returns
returns c = equal_alike
