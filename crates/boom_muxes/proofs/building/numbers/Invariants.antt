use Rattle.std.proofs.Common.{◌≡◌, ◌++◌, ◌+◌, ◌-◌, map, if◌then◌else◌}
use Rattle.std.specs.Prelude.{nat_lt}
use Rattle.vlsi_base.specs.Range.{rising}
use Rattle.boom_muxes.specs.Building.{numbers_behind}
use Rattle.boom_muxes.proofs.building.numbers.Given as goal

abbrev pub invariant-loop-k : goal.invariant-loop-k
invariant-loop-k l = l.numbers.items ++ map (λ k. if nat_lt k l.held then k else k + l.count) (rising l.k (l.total - l.k)) ≡ numbers_behind l.held l.count l.total
