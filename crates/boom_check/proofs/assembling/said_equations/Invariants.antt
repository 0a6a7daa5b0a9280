use Rattle.std.proofs.Common.{map, take}
use Rattle.std.specs.List.{AllZip}
use Rattle.machine_core.specs.View.{equation_view}
use Rattle.boom_check.specs.Assembling.{IsSaidEquation}
use Rattle.boom_check.proofs.assembling.said_equations.Given as goal

abbrev pub invariant-loop-k : goal.invariant-loop-k
invariant-loop-k l = AllZip (IsSaidEquation l.numbers) (map equation_view (take l.k l.given)) (map equation_view l.made.items)
