use Rattle.asimut_sim.proofs.Once.{observes_once}
use Rattle.asimut_sim.proofs.simulation.observes_once.Goals as goal

pub returns : goal.returns
returns c = observes_once c.settles_once.ensures
