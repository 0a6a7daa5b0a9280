use Rattle.std.proofs.Common.{◌≡◌, ◌≤◌, length}
use Rattle.cougar_extract.specs.Stages.{IsPairFrom, AreNext}
use Rattle.cougar_extract.proofs.shorts.least_pair.Given as goal

abbrev pub invariant-loop-k : goal.invariant-loop-k
invariant-loop-k l = record {
  inside : l.k ≤ length l.classes;
  many : length l.next.items ≡ l.count;
  next : AreNext l.classes l.k l.next.items;
  found : IsPairFrom l.classes l.k l.found;
}

abbrev pub decreases-loop-k : goal.decreases-loop-k
decreases-loop-k l = l.k
