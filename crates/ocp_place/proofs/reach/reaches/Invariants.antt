use Rattle.std.proofs.Common.{take}
use Rattle.ocp_place.specs.Reaches.{AreReaches}
use Rattle.ocp_place.proofs.reach.reaches.Given as goal

abbrev pub invariant-loop-model : goal.invariant-loop-model
invariant-loop-model l = AreReaches l.library (take l.model-index l.models) l.reaches.items
