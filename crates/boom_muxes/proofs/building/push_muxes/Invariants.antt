use Rattle.std.proofs.Common.{◌≡◌, ◌++◌, map, drop}
use Rattle.machine_core.specs.View.{equation_view}
use Rattle.boom_muxes.specs.Building.{mux_equations}
use Rattle.boom_muxes.proofs.building.push_muxes.Given as goal

abbrev pub invariant-loop-k : goal.invariant-loop-k
invariant-loop-k l = map equation_view l.out.items ++ mux_equations l.text l.k (drop l.k l.muxes) ≡ map equation_view l.fn.out.items ++ mux_equations l.text 0 l.muxes
