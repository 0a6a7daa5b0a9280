use Rattle.std.proofs.Common.{◌≡◌, ◌++◌, take, map}
use Rattle.net_core.specs.Checks.{port_role}
use Rattle.net_core.proofs.roles.push_ports.Given as goal

abbrev pub invariant-loop-port : goal.invariant-loop-port
invariant-loop-port l = l.roles.items ≡ l.initial.roles.items ++ map port_role (take l.port-index l.ports)
