use Rattle.std.proofs.Common.{◌≡◌, map, take}
use Rattle.boog_map.specs.Draft.{port_signals, join_of, with_joins}
use Rattle.boog_map.proofs.build.join_ports.Given as goal

abbrev pub invariant-loop-port : goal.invariant-loop-port
invariant-loop-port l = l.builder ≡ with_joins l.fn.builder (map (join_of l.drivers) (port_signals (take l.port-index l.ports)))
