use Rattle.std.proofs.Common.{◌≡◌, ◌≤◌, ◌*◌, take}
use Rattle.boog_tight.specs.Kept.{leaf_count}
use Rattle.boog_cover.proofs.graph_cover.leaf_count.Given as goal

abbrev pub invariant-loop-gate : goal.invariant-loop-gate
invariant-loop-gate l = record {
  counted : l.count ≡ leaf_count (take l.gate-index l.gates);
  most : l.count ≤ 6 * l.gate-index;
}
