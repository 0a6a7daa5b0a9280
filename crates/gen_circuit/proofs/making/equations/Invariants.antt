use Rattle.std.proofs.Common.{◌≡◌, ◌++◌, map}
use Rattle.machine_core.specs.View.{equation_view}
use Rattle.vlsi_base.specs.Range.{rising}
use Rattle.gen_circuit.specs.Generated.{output}
use Rattle.gen_circuit.proofs.making.equations.Given as goal

-- the outputs so far, behind the gates
abbrev pub invariant-loop-bit : goal.invariant-loop-bit
invariant-loop-bit l = map equation_view l.made.items ≡ map equation_view l.initial.made.items ++ map (output l.size) (rising 0 l.bit)
