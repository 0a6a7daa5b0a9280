use Rattle.std.proofs.Common.{◌≡◌, ◌+◌, ◌≤◌, drop}
use Rattle.fsm_walk.specs.Reads.{count_of}
use Rattle.fsm_walk.proofs.reads.count.Given as goal

abbrev pub invariant-loop-mark : goal.invariant-loop-mark
invariant-loop-mark l = record {
  whole : l.count + count_of (drop l.mark-index l.marks) ≡ count_of l.marks;
  few : l.count ≤ l.mark-index;
}
