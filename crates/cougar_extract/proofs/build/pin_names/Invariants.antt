use Rattle.std.proofs.Common.{◌≡◌, map, take}
use Rattle.vlsi_base.specs.declared.name.Port.{Port}
use Rattle.cougar_extract.proofs.build.pin_names.Given as goal

abbrev pub invariant-loop-port : goal.invariant-loop-port
invariant-loop-port l = l.names.items ≡ map (λ (p : Port). p.name) (take l.port-index l.port-items)
