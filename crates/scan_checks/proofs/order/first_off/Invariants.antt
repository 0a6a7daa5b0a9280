use Rattle.std.proofs.Common.{ℕ, List, ◌<◌, get_or}
use Rattle.vlsi_base.specs.Member.{In}
use Rattle.scan_checks.proofs.order.first_off.Given as goal

abbrev pub invariant-loop-text : goal.invariant-loop-text
invariant-loop-text l = (j : ℕ) (d : List ℕ) → j < l.text-index → (In (get_or l.texts j d) l.roll → ⊥) → ⊥
