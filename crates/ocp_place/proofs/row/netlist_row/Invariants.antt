use Rattle.std.proofs.Common.{◌≤◌, ◌*◌}
use Rattle.net_meaning.specs.Netlist.{AbstractNetlist as Seen}
use Rattle.net_right.specs.View.{IsSeenAs}
use Rattle.ocp_place.proofs.Laid.{IsRowTo}
use Rattle.ocp_place.proofs.row.netlist_row.Given as goal

abbrev pub invariant-loop-node : goal.invariant-loop-node
invariant-loop-node l = record {
  seen : (k : Seen) → IsSeenAs l.netlist k → IsRowTo k l.library l.node-index l.row;
  narrow : l.row.width ≤ 16000 * l.node-index;
}
