use Rattle.std.proofs.Common.{take}
use Rattle.delay_sta.specs.Graph.{AreFound}
use Rattle.delay_sta.proofs.loads.cell_places.Given as goal

abbrev pub invariant-loop-model : goal.invariant-loop-model
invariant-loop-model l = AreFound l.cells (take l.model-index l.models) l.places.items
