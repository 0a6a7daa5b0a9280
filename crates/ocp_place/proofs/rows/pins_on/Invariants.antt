use Rattle.std.proofs.Common.{All}
use Rattle.net_meaning.specs.Netlist.{AbstractNetlist as Seen}
use Rattle.net_right.specs.View.{IsSeenAs}
use Rattle.ocp_place.specs.Rows.{IsNearSite}
use Rattle.ocp_place.proofs.Laid.{ArePinsTo}
use Rattle.ocp_place.proofs.rows.pins_on.Given as goal

abbrev pub invariant-loop-k : goal.invariant-loop-k
invariant-loop-k l = record {
  seen : (k : Seen) → IsSeenAs l.netlist k → ArePinsTo k l.library l.spots.starts.items l.spots.row_numbers.items l.k l.row;
  near : All IsNearSite l.row.sites.items;
}
