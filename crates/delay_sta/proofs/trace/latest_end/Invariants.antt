use Rattle.std.proofs.Common.{◌≡◌, ℕ, ◌<◌, None, Some, get_or}
use Rattle.net_core.specs.Places.{Stands}
use Rattle.delay_sta.proofs.trace.latest_end.Given as goal

abbrev pub invariant-loop-class : goal.invariant-loop-class
invariant-loop-class l = (j class : ℕ) → j < l.class-index → Stands l.delays.ends.items j class → get_or l.delays.arrivals.items class None ≡ Some l.worst → ⊥
