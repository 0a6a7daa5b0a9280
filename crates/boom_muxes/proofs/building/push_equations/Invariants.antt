use Rattle.std.proofs.Common.{◌≡◌, ◌++◌, map, drop}
use Rattle.std.specs.Option.{option_copied}
use Rattle.machine_core.specs.View.{equation_view}
use Rattle.boom_muxes.specs.Building.{equations_said}
use Rattle.boom_muxes.proofs.building.push_equations.Given as goal

abbrev pub invariant-loop-k : goal.invariant-loop-k
invariant-loop-k l =
    map equation_view l.out.items ++ equations_said l.numbers (option_copied l.plan) l.k (map equation_view (drop l.k l.equations))
    ≡ map equation_view l.fn.out.items ++ equations_said l.numbers (option_copied l.plan) 0 (map equation_view l.equations)
