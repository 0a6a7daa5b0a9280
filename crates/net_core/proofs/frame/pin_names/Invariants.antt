use Rattle.std.proofs.Common.{◌≡◌, ◌+◌, [], length, take}
use Rattle.std.specs.List.{flat_map}
use Rattle.net_core.specs.Frame.{node_pins}
use Rattle.net_core.proofs.frame.pin_names.Given as goal

abbrev pub invariant-loop-node : goal.invariant-loop-node
invariant-loop-node l = record {
  none : l.names ≡ [];
  passed : l.fn.place ≡ length (flat_map node_pins (take l.node-index l.nodes)) + l.rest;
}
