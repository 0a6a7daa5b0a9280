use Rattle.loon_loads.proofs.Loading.{SoFar}
use Rattle.loon_loads.proofs.loads.marked_loads.Given as goal

abbrev pub invariant-loop-place : goal.invariant-loop-place
invariant-loop-place l = SoFar l.marks l.classes l.count l.place l.loads.items
