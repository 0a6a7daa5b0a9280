use Rattle.std.proofs.Common.{◌≡◌, ◌++◌, take, map}
use Rattle.scapin.specs.Classes.{line_class}
use Rattle.scapin.proofs.classes.push_ports.Given as goal

abbrev pub invariant-loop-port : goal.invariant-loop-port
invariant-loop-port l = l.classes.items ≡ l.fn.classes.items ++ map (λ p. line_class l.netlist l.lines p.name) (take l.port-index l.ports)
