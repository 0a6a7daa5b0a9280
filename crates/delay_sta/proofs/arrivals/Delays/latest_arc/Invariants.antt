use Rattle.std.proofs.Common.{◌≡◌, ℕ, ◌<◌, Some}
use Rattle.net_core.specs.Places.{Stands}
use Rattle.delay_sta.specs.declared.graph.TimedArc.{TimedArc}
use Rattle.delay_sta.specs.Graph.{arrival_by}
use Rattle.delay_sta.proofs.arrivals.Delays.latest_arc.Given as goal

abbrev pub invariant-loop-arc : goal.invariant-loop-arc
invariant-loop-arc l = (j : ℕ) (x : TimedArc) → j < l.arc-index → Stands l.arc-items j x → arrival_by l.self.arrivals.items x ≡ Some l.time → ⊥
