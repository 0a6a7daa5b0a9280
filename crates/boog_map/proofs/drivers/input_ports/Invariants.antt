use Rattle.std.proofs.Common.{◌≡◌, ◌++◌, map, drop}
use Rattle.net_core.specs.Netlist.{port}
use Rattle.boog_map.proofs.drivers.input_ports.Given as goal

abbrev pub invariant-loop-name : goal.invariant-loop-name
invariant-loop-name l = l.ports.items ++ map port (drop l.name-index l.names) ≡ map port l.names
