use Rattle.std.proofs.Common.{◌≡◌, ◌++◌, drop, map}
use Rattle.net_core.specs.Netlist.{port}
use Rattle.scan_build.proofs.sketch.port_terminals.Given as goal

abbrev pub invariant-loop-port : goal.invariant-loop-port
invariant-loop-port l = l.terminals.items ++ map (λ p. port p.name) (drop l.port-index l.ports) ≡ map (λ p. port p.name) l.ports
