use Rattle.std.proofs.Common.{◌≡◌, map, take}
use Rattle.machine_core.specs.declared.equation.Equation.{Equation}
use Rattle.machine_core.specs.View.{equation_view}
use Rattle.proof_joint.specs.Clock.{equation_over}
use Rattle.proof_joint.proofs.clock.equations_over.Given as goal

abbrev pub invariant-loop-equation : goal.invariant-loop-equation
invariant-loop-equation l = map equation_view l.made.items ≡ map (λ (e : Equation). equation_over l.numbers (equation_view e)) (take l.equation-index l.equations)
