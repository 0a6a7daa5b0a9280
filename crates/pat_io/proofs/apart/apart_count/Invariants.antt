use Rattle.std.proofs.Common.{◌≤◌, ◌-◌, length, take}
use Rattle.std.specs.List.{IsDistinct}
use Rattle.pat_io.specs.Apart.{share_bit}
use Rattle.pat_io.proofs.apart.apart_count.Given as goal

abbrev pub invariant-loop-beyond : goal.invariant-loop-beyond
invariant-loop-beyond l = (l.count ≤ l.beyond) × (l.beyond ≤ length l.columns) × IsDistinct share_bit (take l.count l.columns)

abbrev pub decreases-loop-beyond : goal.decreases-loop-beyond
decreases-loop-beyond l = l.beyond - l.count
