use Rattle.proof_joint.proofs.Behaving.{compared_behaves, compared_runs}
use Rattle.proof_joint.proofs.laws.compared_law.Goals as goal

pub returns-clause-behaves : goal.returns-clause-behaves
returns-clause-behaves c = compared_behaves

pub returns-clause-runs : goal.returns-clause-runs
returns-clause-runs c = compared_runs
