use Rattle.std.proofs.Common.{ℕ}
use Rattle.std.specs.Prelude.{◌↔◌}
use Rattle.net_core.specs.Places.{IsThere}
use Rattle.delay_sta.specs.Graph.{IsOutputBefore}
use Rattle.delay_sta.proofs.analysis.output_classes.Given as goal

abbrev pub invariant-loop-k : goal.invariant-loop-k
invariant-loop-k l = (class : ℕ) → IsThere l.ends.items class ↔ IsOutputBefore l.ports l.classes l.k class
