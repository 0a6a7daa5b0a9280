use Rattle.std.proofs.Common.{◌≡◌, ◌++◌, map, drop}
use Rattle.vlsi_base.specs.declared.name.Port.{Port}
use Rattle.net_core.specs.Netlist.{port}
use Rattle.vst_io.proofs.linking.port_links.Given as goal

abbrev pub invariant-loop-port : goal.invariant-loop-port
invariant-loop-port l = l.links.items ++ map (λ (p : Port). (port p.name, p.name)) (drop l.port-index l.ports) ≡ map (λ (p : Port). (port p.name, p.name)) l.ports
