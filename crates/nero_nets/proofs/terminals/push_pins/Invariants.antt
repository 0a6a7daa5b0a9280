use Rattle.std.proofs.Common.{◌≡◌, ◌++◌, take}
use Rattle.std.specs.List.{flat_map}
use Rattle.net_meaning.specs.Netlist.{AbstractNetlist as Seen}
use Rattle.net_right.specs.View.{IsSeenAs}
use Rattle.nero_nets.specs.Terminals.{pins_in}
use Rattle.nero_nets.proofs.terminals.push_pins.Given as goal

abbrev pub invariant-loop-node : goal.invariant-loop-node
invariant-loop-node l =
    (k : Seen) → IsSeenAs l.netlist k → l.made.items ≡ l.initial.made.items ++ flat_map (pins_in k l.class) (take l.node-index l.netlist.instances)
