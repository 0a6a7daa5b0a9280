use Rattle.std.proofs.Common.{ℕ, ◌<◌}
use Rattle.net_core.specs.Places.{Stands}
use Rattle.net_core.proofs.netlist.first_place.Given as goal

abbrev pub invariant-loop-k : goal.invariant-loop-k
invariant-loop-k l = (j : ℕ) → j < l.k → Stands l.classes j l.class → ⊥
