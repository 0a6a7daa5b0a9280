use Rattle.std.proofs.Common.{◌≡◌, ◌++◌, ◌-◌, map, take, Some}
use Rattle.vlsi_base.specs.Range.{rising}
use Rattle.boom_muxes.specs.Names.{new_names}
use Rattle.boom_muxes.proofs.building.all_names.Given as goal

abbrev pub invariant-loop-k : goal.invariant-loop-k
invariant-loop-k l = l.names.items ++ map (λ k. record { text = l.text; bit = Some k }) (rising l.k (l.count - l.k)) ≡ take l.held l.given ++ new_names l.text l.count
