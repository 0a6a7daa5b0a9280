use Rattle.std.proofs.Common.{map, sym, subst, take}
use Rattle.vlsi_base.specs.declared.name.Name.{Name}
use Rattle.vlsi_base.specs.declared.name.Terminal.{Terminal}
use Rattle.net_core.specs.Netlist.{port}
use Rattle.net_core.specs.Places.{IsThere}
use Rattle.net_core.specs.Joins.{draft_terminals}
use Rattle.boog_map.specs.declared.place.Signal.{Signal}
use Rattle.boog_map.specs.declared.ports.TiedPort.{TiedPort}
use Rattle.boog_map.specs.Draft.{port_signals, join_of}
use Rattle.boog_map.proofs.Joining.{lent_one}
use Rattle.boog_map.proofs.build.join_ports.Goals as goal

abbrev one : TiedPort → Terminal × Signal
one p = (port p.name, p.signal)

pub join-requires-clause-numbered : goal.join-requires-clause-numbered
join-requires-clause-numbered c =
    (lent_one c.args.builder.now c.loop-port.builder (map (join_of c.args.drivers.now) (port_signals (take c.loop-port.port-index c.args.ports.now))) c.args.drivers.now one c.args.ports.now
    c.loop-port.port-index c.port-item.result c.requires c.loop-port.invariant c.loop-port-test.true c.port-item.is).2

pub join-requires-clause-there : goal.join-requires-clause-there
join-requires-clause-there c =
    subst (λ (n : Name). IsThere (draft_terminals c.loop-port.builder) (port n)) (sym c.in_ok-copy.ensures)
    (lent_one c.args.builder.now c.loop-port.builder (map (join_of c.args.drivers.now) (port_signals (take c.loop-port.port-index c.args.ports.now))) c.args.drivers.now one c.args.ports.now
    c.loop-port.port-index c.port-item.result c.requires c.loop-port.invariant c.loop-port-test.true c.port-item.is).0

pub join-requires-clause-driven : goal.join-requires-clause-driven
join-requires-clause-driven c =
    (lent_one c.args.builder.now c.loop-port.builder (map (join_of c.args.drivers.now) (port_signals (take c.loop-port.port-index c.args.ports.now))) c.args.drivers.now one c.args.ports.now
    c.loop-port.port-index c.port-item.result c.requires c.loop-port.invariant c.loop-port-test.true c.port-item.is).1
