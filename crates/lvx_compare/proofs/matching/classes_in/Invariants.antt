use Rattle.std.proofs.Common.{◌++◌, take}
use Rattle.std.specs.List.{flat_map}
use Rattle.net_core.specs.Frame.{node_pins}
use Rattle.net_core.proofs.Frames.{port_terminals}
use Rattle.lvx_compare.specs.Stages.{AreClasses}
use Rattle.lvx_compare.proofs.matching.classes_in.Given as goal

abbrev pub invariant-loop-node : goal.invariant-loop-node
invariant-loop-node l = AreClasses l.other (port_terminals l.netlist.ports ++ flat_map node_pins (take l.node-index l.node-items)) l.found.items
