use Rattle.std.proofs.Common.{ℕ, ◌<◌, ◌≤◌, length, get_or}
use Rattle.std.specs.Global.{Vec}
use Rattle.loon_fanout.proofs.limit.is_crowded.Given as goal

abbrev pub invariant-loop-sinks : goal.invariant-loop-sinks
invariant-loop-sinks l = (k : ℕ) (d : Vec ℕ) → k < l.sinks-index → length (get_or l.loads k d).items ≤ l.limit
