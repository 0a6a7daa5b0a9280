use Rattle.std.proofs.Common.{◌-◌, length}
use Rattle.vst_print.proofs.Runs.{Groups}
use Rattle.vst_print.proofs.groups.groups.Given as goal

abbrev pub invariant-loop-start : goal.invariant-loop-start
invariant-loop-start l = Groups l.fn.out l.ports l.start l.out

abbrev pub decreases-loop-start : goal.decreases-loop-start
decreases-loop-start l = length l.ports - l.start
