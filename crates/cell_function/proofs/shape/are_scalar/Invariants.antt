use Rattle.std.proofs.Common.{◌≡◌, drop}
use Rattle.cell_function.specs.Function.{are_scalar}
use Rattle.cell_function.proofs.shape.are_scalar.Given as goal

abbrev pub invariant-loop-port : goal.invariant-loop-port
invariant-loop-port l = are_scalar (drop l.port-index l.ports) ≡ are_scalar l.ports
