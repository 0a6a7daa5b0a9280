use Rattle.std.proofs.Common.{◌-◌}
use Rattle.net_core.proofs.Searching.{Narrowed}
use Rattle.net_core.proofs.frame.name_place.Given as goal

abbrev pub invariant-loop-low : goal.invariant-loop-low
invariant-loop-low l = Narrowed l.names l.name l.low l.high

abbrev pub decreases-loop-low : goal.decreases-loop-low
decreases-loop-low l = l.high - l.low
