use Rattle.std.proofs.Common.{◌≡◌, ◌++◌, replicate, None}
use Rattle.asimut_sim.proofs.values.push_nothing.Given as goal

abbrev pub invariant-loop-step : goal.invariant-loop-step
invariant-loop-step l = l.wanted.items ≡ l.initial.wanted.items ++ replicate l._step None
