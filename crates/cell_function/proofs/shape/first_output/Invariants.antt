use Rattle.std.proofs.Common.{◌≡◌, drop}
use Rattle.cell_function.specs.Row.{first, output_names}
use Rattle.cell_function.proofs.shape.first_output.Given as goal

abbrev pub invariant-loop-port : goal.invariant-loop-port
invariant-loop-port l = first (output_names (drop l.port-index l.ports)) ≡ first (output_names l.ports)
