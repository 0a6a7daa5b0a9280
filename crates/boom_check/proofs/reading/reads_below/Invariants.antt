use Rattle.std.proofs.Common.{map, take}
use Rattle.machine_core.specs.Order.{EachReadsBelow}
use Rattle.machine_core.specs.View.{equation_view}
use Rattle.boom_check.proofs.reading.reads_below.Given as goal

abbrev pub invariant-loop-k : goal.invariant-loop-k
invariant-loop-k l = EachReadsBelow l.first (map equation_view (take l.k l.equations))
