use Rattle.std.proofs.Common.{take}
use Rattle.net_meaning.specs.Netlist.{AbstractNetlist as Seen}
use Rattle.net_right.specs.View.{IsSeenAs}
use Rattle.ocp_place.specs.Nets.{net_number}
use Rattle.ocp_place.specs.Placed.{rows_of, stood_in}
use Rattle.nero_nets.specs.Routed.{net_terminals}
use Rattle.nero_rip.specs.Rips.{AreNamed}
use Rattle.nero_rip.proofs.route.name_rips.Given as goal

abbrev pub invariant-loop-rip : goal.invariant-loop-rip
invariant-loop-rip l =
    (k : Seen) → IsSeenAs l.netlist k
    → AreNamed (net_terminals k l.library (net_number k l.library) (rows_of k l.placement) (stood_in k l.placement)) (take l.rip-index l.made) l.rips.items
