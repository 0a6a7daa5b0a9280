use Rattle.std.proofs.Common.{◌≡◌, ◌++◌, take, map}
use Rattle.std.specs.List.{flat_map}
use Rattle.net_core.specs.Frame.{instance_of}
use Rattle.loon_loads.specs.Loads.{pin_marks}
use Rattle.loon_loads.proofs.loads.push_nodes.Given as goal

abbrev pub invariant-loop-node : goal.invariant-loop-node
invariant-loop-node l = l.marks.items ≡ l.initial.marks.items ++ flat_map (pin_marks l.library) (map (instance_of l.models) (take l.node-index l.nodes))
