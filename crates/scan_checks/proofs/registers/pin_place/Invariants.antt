use Rattle.std.proofs.Common.{◌≡◌, ℕ, ◌<◌, get_or}
use Rattle.vlsi_base.specs.declared.name.Name.{Name}
use Rattle.scan_checks.proofs.registers.pin_place.Given as goal

abbrev pub invariant-loop-place : goal.invariant-loop-place
invariant-loop-place l = (j : ℕ) (d : Name) → j < l.place → get_or l.node.pins j d ≡ l.pin → ⊥
