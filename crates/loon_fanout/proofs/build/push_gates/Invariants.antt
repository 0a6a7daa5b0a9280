use Rattle.std.proofs.Common.{◌≡◌, ◌++◌, take, map}
use Rattle.loon_fanout.specs.Building.{instance_by, gate_by}
use Rattle.loon_fanout.proofs.build.push_gates.Given as goal

abbrev pub invariant-loop-name : goal.invariant-loop-name
invariant-loop-name l = map instance_by l.entries.items ≡ map instance_by l.initial.entries.items ++ map (gate_by l.repeater) (take l.name-index l.names)
