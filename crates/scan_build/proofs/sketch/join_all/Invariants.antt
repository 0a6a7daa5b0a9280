use Rattle.std.proofs.Common.{◌≡◌, take}
use Rattle.loon_fanout.specs.Building.{with_joins, joins_of}
use Rattle.scan_build.proofs.sketch.join_all.Given as goal

abbrev pub invariant-loop-place : goal.invariant-loop-place
invariant-loop-place l = l.builder ≡ with_joins l.fn.builder (take l.place (joins_of l.terminals l.classes l.heads))
