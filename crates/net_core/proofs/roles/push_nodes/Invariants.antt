use Rattle.std.proofs.Common.{◌≡◌, ◌++◌, take, map}
use Rattle.std.specs.List.{flat_map}
use Rattle.net_core.specs.Frame.{instance_of}
use Rattle.net_core.specs.Checks.{pin_role, pins_named}
use Rattle.net_core.proofs.roles.push_nodes.Given as goal

abbrev pub invariant-loop-node : goal.invariant-loop-node
invariant-loop-node l = l.roles.items ≡ l.initial.roles.items ++ flat_map (λ i. map pin_role (pins_named l.table i.model)) (map (instance_of l.models) (take l.node-index l.nodes))
