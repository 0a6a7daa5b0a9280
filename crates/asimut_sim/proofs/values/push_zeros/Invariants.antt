use Rattle.std.proofs.Common.{◌≡◌, ◌++◌, replicate, false}
use Rattle.asimut_sim.proofs.values.push_zeros.Given as goal

abbrev pub invariant-loop-step : goal.invariant-loop-step
invariant-loop-step l = l.bits.items ≡ l.initial.bits.items ++ replicate l._step false
