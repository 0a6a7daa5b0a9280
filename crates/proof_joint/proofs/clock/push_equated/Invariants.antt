use Rattle.std.proofs.Common.{◌≡◌, ◌++◌, map, take}
use Rattle.machine_core.specs.Machine.{Equation}
use Rattle.machine_core.specs.View.{equation_view}
use Rattle.proof_joint.proofs.clock.push_equated.Given as goal

abbrev pub invariant-loop-equation : goal.invariant-loop-equation
invariant-loop-equation l = l.out.items ≡ l.fn.out.items ++ map (λ (e : Equation). e.name) (map equation_view (take l.equation-index l.equations))
