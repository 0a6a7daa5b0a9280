use Rattle.std.proofs.Common.{◌≡◌, length, take}
use Rattle.delay_sta.specs.Graph.{AreGrouped}
use Rattle.delay_sta.proofs.graph.grouped.Given as goal

abbrev pub invariant-loop-arc : goal.invariant-loop-arc
invariant-loop-arc l = record {
  many : length l.groups.items ≡ l.count;
  grouped : AreGrouped (take l.arc-index l.arcs) l.groups.items;
}
