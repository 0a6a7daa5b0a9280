use Rattle.std.proofs.Common.{◌≡◌, length, take}
use Rattle.delay_sta.specs.Graph.{AreOnward}
use Rattle.delay_sta.proofs.graph.reached.Given as goal

abbrev pub invariant-loop-arc : goal.invariant-loop-arc
invariant-loop-arc l = record {
  many : length l.lists.items ≡ l.count;
  onward : AreOnward (take l.arc-index l.arcs) l.lists.items;
}
