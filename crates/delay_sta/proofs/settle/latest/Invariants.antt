use Rattle.std.proofs.Common.{take}
use Rattle.delay_sta.specs.Graph.{IsLatest}
use Rattle.delay_sta.proofs.settle.latest.Given as goal

abbrev pub invariant-loop-arc : goal.invariant-loop-arc
invariant-loop-arc l = IsLatest l.fn.start l.arrivals (take l.arc-index l.arcs) l.latest
