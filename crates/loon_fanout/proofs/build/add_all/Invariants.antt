use Rattle.std.proofs.Common.{◌≡◌, map, take}
use Rattle.loon_fanout.specs.Building.{instance_by, with_instances}
use Rattle.loon_fanout.proofs.build.add_all.Given as goal

abbrev pub invariant-loop-entry : goal.invariant-loop-entry
invariant-loop-entry l = l.builder ≡ with_instances l.fn.builder (map instance_by (take l.entry-index l.entries))
