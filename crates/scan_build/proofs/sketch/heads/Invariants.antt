use Rattle.loon_fanout.proofs.Tying.{HeadsSoFar}
use Rattle.scan_build.proofs.sketch.heads.Given as goal

abbrev pub invariant-loop-place : goal.invariant-loop-place
invariant-loop-place l = HeadsSoFar l.classes l.heads.items l.count l.place
