use Rattle.std.proofs.Common.{map, take}
use Rattle.net_core.specs.Netlist.{port}
use Rattle.lvx_compare.specs.Stages.{AddsClasses}
use Rattle.lvx_compare.proofs.matching.push_port_classes.Given as goal

abbrev pub invariant-loop-item : goal.invariant-loop-item
invariant-loop-item l = AddsClasses l.netlist (map (λ p. port p.name) (take l.item-index l.ports)) l.initial.found.items l.found.items
