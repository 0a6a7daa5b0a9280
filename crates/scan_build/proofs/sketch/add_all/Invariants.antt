use Rattle.std.proofs.Common.{◌≡◌, map, take}
use Rattle.loon_fanout.specs.Building.{with_instances}
use Rattle.scan_build.specs.Sketched.{instance_by}
use Rattle.scan_build.proofs.sketch.add_all.Given as goal

abbrev pub invariant-loop-entry : goal.invariant-loop-entry
invariant-loop-entry l = l.builder ≡ with_instances l.fn.builder (map instance_by (take l.entry-index l.entries))
