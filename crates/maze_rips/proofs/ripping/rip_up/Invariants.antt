use Rattle.std.proofs.Common.{◌≤◌, ◌-◌, length}
use Rattle.maze_rips.specs.Progress.{IsUnderWay}
use Rattle.maze_rips.proofs.ripping.rip_up.Given as goal

abbrev pub invariant-loop-alloc : goal.invariant-loop-alloc
invariant-loop-alloc l = record {
  under_way : IsUnderWay l.task l.work;
  few : length l.work.rips.items ≤ l.allowed;
}

abbrev pub decreases-loop-alloc : goal.decreases-loop-alloc
decreases-loop-alloc l = l.allowed - length l.work.rips.items
