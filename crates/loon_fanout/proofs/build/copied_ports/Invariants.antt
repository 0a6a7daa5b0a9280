use Rattle.std.proofs.Common.{◌≡◌, ◌++◌, drop}
use Rattle.loon_fanout.proofs.build.copied_ports.Given as goal

abbrev pub invariant-loop-port : goal.invariant-loop-port
invariant-loop-port l = l.copies.items ++ drop l.port-index l.ports ≡ l.ports
