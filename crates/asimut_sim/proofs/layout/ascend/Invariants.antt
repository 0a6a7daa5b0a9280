use Rattle.std.proofs.Common.{vec_len}
use Rattle.asimut_sim.proofs.LayoutLemmas.{Climbs}
use Rattle.asimut_sim.proofs.layout.ascend.Given as goal

abbrev pub invariant-loop-step : goal.invariant-loop-step
invariant-loop-step l = Climbs l.fn.program l.program l.steps.items l.place l.initial.steps.items l.initial.place

abbrev pub decreases-loop-step : goal.decreases-loop-step
decreases-loop-step l = vec_len l.steps
