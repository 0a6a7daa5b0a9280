use Rattle.std.proofs.Common.{take}
use Rattle.boog_map.specs.Tied.{AreGateParts}
use Rattle.boog_map.proofs.choice.parts_at.Given as goal

abbrev pub invariant-loop-place : goal.invariant-loop-place
invariant-loop-place l = AreGateParts l.cells (take l.place-index l.places) l.parts.items
