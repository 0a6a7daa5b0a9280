use Rattle.std.proofs.Common.{◌-◌, ◌≤◌, length}
use Rattle.druc_rules.proofs.Holding.{NoneCovers}
use Rattle.druc_rules.proofs.excuses.is_covered.Given as goal

abbrev pub invariant-loop-k : goal.invariant-loop-k
invariant-loop-k l = record {
  after : l.start ≤ l.k;
  none : NoneCovers l.layout.shapes.now l.layout.holders.now l.first l.second l.k;
}

abbrev pub decreases-loop-k : goal.decreases-loop-k
decreases-loop-k l = length l.layout.holders.now - l.k
