use Rattle.std.proofs.Common.{length, ◌-◌}
use Rattle.loon_wiring.proofs.Putting.{Rounding}
use Rattle.loon_wiring.proofs.wiring.Wiring.round.Given as goal

abbrev pub invariant-loop-start : goal.invariant-loop-start
invariant-loop-start l = Rounding l.repeater l.limit l.class l.fn.self l.self l.sinks l.inputs.items l.start

abbrev pub decreases-loop-start : goal.decreases-loop-start
decreases-loop-start l = length l.sinks - l.start
