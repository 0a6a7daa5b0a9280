use Rattle.std.proofs.Common.{◌≡◌, ◌≤◌, All, length, take}
use Rattle.net_meaning.specs.Netlist.{AbstractNetlist as Seen}
use Rattle.net_right.specs.View.{IsSeenAs}
use Rattle.ocp_place.specs.Stood.{instance_widths}
use Rattle.ocp_place.proofs.rows.cells_of.Given as goal

abbrev pub invariant-loop-node : goal.invariant-loop-node
invariant-loop-node l = record {
  seen : (k : Seen) → IsSeenAs l.netlist k → l.widths.items ≡ instance_widths l.library (take l.node-index k.instances);
  many : length l.widths.items ≡ l.node-index;
  narrow : All (λ w. w ≤ 16000) l.widths.items;
}
