use Rattle.asimut_sim.proofs.simulation.simulate.Goals as goal

pub fill-requires-clause-plan : goal.fill-requires-clause-plan
fill-requires-clause-plan c = rw c.in_ok-flat.ensures.machine c.in_ok-plan.ensures
