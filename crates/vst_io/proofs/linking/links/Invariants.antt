use Rattle.std.proofs.Common.{◌≡◌, ◌++◌, map, drop}
use Rattle.std.specs.List.{flat_map}
use Rattle.vlsi_base.specs.declared.name.Port.{Port}
use Rattle.net_core.specs.Netlist.{port}
use Rattle.vst_io.specs.Nets.{instance_links}
use Rattle.vst_io.proofs.linking.links.Given as goal

abbrev pub invariant-loop-instance : goal.invariant-loop-instance
invariant-loop-instance l =
    l.links.items ++ flat_map (instance_links l.known.file) (drop l.instance-index l.instance-items)
    ≡ map (λ (p : Port). (port p.name, p.name)) l.ports ++ flat_map (instance_links l.known.file) l.instance-items
