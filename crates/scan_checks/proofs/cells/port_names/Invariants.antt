use Rattle.std.proofs.Common.{◌≡◌, ◌++◌, drop}
use Rattle.machine_core.specs.Machine.{names_of}
use Rattle.scan_checks.proofs.cells.port_names.Given as goal

abbrev pub invariant-loop-port : goal.invariant-loop-port
invariant-loop-port l = l.names.items ++ names_of (drop l.port-index l.ports) ≡ names_of l.ports
