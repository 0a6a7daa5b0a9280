use Rattle.std.proofs.Common.{◌≡◌, ◌++◌, map, drop}
use Rattle.std.specs.Option.{option_copied}
use Rattle.machine_core.specs.View.{register_view}
use Rattle.boom_muxes.specs.Building.{registers_said}
use Rattle.boom_muxes.proofs.building.registers.Given as goal

abbrev pub invariant-loop-k : goal.invariant-loop-k
invariant-loop-k l =
    map register_view l.registers.items ++ registers_said l.numbers (option_copied l.plan) l.k (map register_view (drop l.k l.given))
    ≡ registers_said l.numbers (option_copied l.plan) 0 (map register_view l.given)
