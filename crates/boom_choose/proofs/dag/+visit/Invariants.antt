use Rattle.bdd_core.specs.Diagram.{levels_of}
use Rattle.boom_choose.proofs.dag.+visit.Given as goal

abbrev pub decreases-visit : goal.decreases-visit
decreases-visit l = levels_of l.diagrams.now l.at
