use Rattle.std.proofs.Common.{◌≡◌, ◌++◌, drop}
use Rattle.cell_function.specs.Timing.{arcs_to}
use Rattle.cell_function.proofs.timing.arcs_to.Given as goal

abbrev pub invariant-loop-port : goal.invariant-loop-port
invariant-loop-port l = l.arcs.items ++ arcs_to l.function l.generics l.to (drop l.port-index l.ports) ≡ arcs_to l.function l.generics l.to l.ports
