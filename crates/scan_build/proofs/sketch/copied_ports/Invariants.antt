use Rattle.std.proofs.Common.{◌≡◌, ◌++◌, drop}
use Rattle.scan_build.proofs.sketch.copied_ports.Given as goal

abbrev pub invariant-loop-port : goal.invariant-loop-port
invariant-loop-port l = l.copies.items ++ drop l.port-index l.ports ≡ l.ports
