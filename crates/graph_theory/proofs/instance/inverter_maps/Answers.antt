use Rattle.graph_theory.proofs.Inverter.{inverter_maps}
use Rattle.graph_theory.proofs.instance.inverter_maps.Goals as goal

pub returns : goal.returns
returns c = inverter_maps
