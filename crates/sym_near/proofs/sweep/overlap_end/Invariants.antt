use Rattle.std.proofs.Common.{◌-◌, ◌<◌, ◌≤◌, Some, length}
use Rattle.sym_near.specs.Sweep.{Skips}
use Rattle.sym_near.proofs.sweep.overlap_end.Given as goal

abbrev pub invariant-loop-low : goal.invariant-loop-low
invariant-loop-low l = record {
  after : l.p < l.low;
  low : l.low ≤ length l.entries;
  high : l.high ≤ length l.entries;
  skips : Skips (Some l.gap) l.entries l.p l.low;
}

abbrev pub decreases-loop-low : goal.decreases-loop-low
decreases-loop-low l = l.high - l.low
