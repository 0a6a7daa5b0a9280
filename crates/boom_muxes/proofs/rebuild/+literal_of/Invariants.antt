use Rattle.bdd_core.specs.Diagram.{levels_of}
use Rattle.boom_muxes.proofs.rebuild.+literal_of.Given as goal

abbrev pub decreases-literal_of : goal.decreases-literal_of
decreases-literal_of l = levels_of l.diagram.now.diagrams l.at
