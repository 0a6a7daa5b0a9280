use Rattle.std.proofs.Common.{length}
use Rattle.delay_sta.proofs.Passing.{ArePassed}
use Rattle.delay_sta.proofs.settle.settle.Given as goal

abbrev pub invariant-loop-class : goal.invariant-loop-class
invariant-loop-class l = ArePassed l.arcs l.order (length l.initial.arrivals) l.starts l.arrivals l.stale l.class-index
