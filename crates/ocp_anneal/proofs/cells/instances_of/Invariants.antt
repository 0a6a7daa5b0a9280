use Rattle.std.proofs.Common.{◌≡◌, take}
use Rattle.net_meaning.specs.Netlist.{AbstractNetlist as Seen}
use Rattle.net_right.specs.View.{IsSeenAs}
use Rattle.ocp_place.specs.Stood.{instance_widths}
use Rattle.ocp_anneal.specs.Cells.{cell_pins}
use Rattle.ocp_anneal.proofs.cells.instances_of.Given as goal

abbrev pub invariant-loop-k : goal.invariant-loop-k
invariant-loop-k l = record {
  widths : (k : Seen) → IsSeenAs l.netlist k → l.widths.items ≡ instance_widths l.library (take l.k k.instances);
  pins : (k : Seen) → IsSeenAs l.netlist k → l.pins.items ≡ cell_pins k l.library 0 (take l.k k.instances);
}
