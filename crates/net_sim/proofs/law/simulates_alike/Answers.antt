use Rattle.net_sim.proofs.Runs.{simulates_alike}
use Rattle.net_sim.proofs.law.simulates_alike.Goals as goal

pub returns : goal.returns
returns c = simulates_alike
