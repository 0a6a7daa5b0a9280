use Rattle.loon_laws.proofs.Running.{run_alike}
use Rattle.loon_laws.proofs.meaning.alike_law.Goals as goal

pub returns : goal.returns
returns c = run_alike
