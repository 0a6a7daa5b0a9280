use Rattle.std.proofs.Common.{◌-◌, length}
use Rattle.vst_print.proofs.Runs.{OneText}
use Rattle.vst_print.proofs.groups.run_end.Given as goal

abbrev pub invariant-loop-end : goal.invariant-loop-end
invariant-loop-end l = OneText l.ports l.start l.end

abbrev pub decreases-loop-end : goal.decreases-loop-end
decreases-loop-end l = length l.ports - l.end
