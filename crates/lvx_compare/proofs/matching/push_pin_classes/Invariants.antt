use Rattle.std.proofs.Common.{map, take}
use Rattle.net_core.specs.Netlist.{pin_of}
use Rattle.lvx_compare.specs.Stages.{AddsClasses}
use Rattle.lvx_compare.proofs.matching.push_pin_classes.Given as goal

abbrev pub invariant-loop-pin : goal.invariant-loop-pin
invariant-loop-pin l = AddsClasses l.netlist (map (pin_of l.node.name) (take l.pin-index l.pins)) l.initial.found.items l.found.items
