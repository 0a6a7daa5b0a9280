use Rattle.std.proofs.Common.{ℕ, List, ◌<◌, get_or}
use Rattle.net_core.specs.Places.{IsThere}
use Rattle.scan_checks.proofs.names.first_on.Given as goal

abbrev pub invariant-loop-text : goal.invariant-loop-text
invariant-loop-text l = (j : ℕ) (d : List ℕ) → j < l.text-index → IsThere l.roll (get_or l.texts j d) → ⊥
