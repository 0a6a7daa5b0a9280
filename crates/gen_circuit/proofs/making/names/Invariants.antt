use Rattle.std.proofs.Common.{◌≡◌, ◌++◌, map, take}
use Rattle.machine_core.specs.Machine.{Equation}
use Rattle.machine_core.specs.View.{equation_view}
use Rattle.gen_circuit.proofs.making.names.Given as goal

-- the names of the equations so far, behind those of inputs and registers
abbrev pub invariant-loop-equation : goal.invariant-loop-equation
invariant-loop-equation l = l.names.items ≡ l.initial.names.items ++ map (λ (e : Equation). e.name) (map equation_view (take l.equation-index l.equations))
