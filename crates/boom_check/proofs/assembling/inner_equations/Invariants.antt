use Rattle.std.proofs.Common.{◌≡◌, ◌++◌, ◌-◌, length, map, Some}
use Rattle.vlsi_base.specs.Range.{rising}
use Rattle.boom_muxes.specs.Names.{new_names}
use Rattle.boom_check.proofs.assembling.inner_equations.Given as goal

abbrev pub invariant-loop-k : goal.invariant-loop-k
invariant-loop-k l =
    map (λ e. e.name) l.made.items ++ map (λ k. record { text = l.text; bit = Some k }) (rising l.k (length l.inner - l.k)) ≡ new_names l.text (length l.inner)
