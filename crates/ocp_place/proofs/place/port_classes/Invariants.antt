use Rattle.std.proofs.Common.{◌≡◌, ◌++◌, drop}
use Rattle.vlsi_base.specs.Names.{vdd, vss}
use Rattle.machine_core.specs.Named.{is_same_name}
use Rattle.ocp_place.specs.Ports.{class_named, signal_classes}
use Rattle.ocp_place.proofs.place.port_classes.Given as goal

abbrev pub invariant-loop-k : goal.invariant-loop-k
invariant-loop-k l = record {
  high : class_named (λ p. is_same_name p.name vdd) l.split.high (drop l.k l.ports) (drop l.k l.classes)
      ≡ class_named (λ p. is_same_name p.name vdd) 0 l.ports l.classes;
  low : class_named (λ p. is_same_name p.name vss) l.split.low (drop l.k l.ports) (drop l.k l.classes)
      ≡ class_named (λ p. is_same_name p.name vss) 0 l.ports l.classes;
  signals : l.split.signals.items ++ signal_classes (drop l.k l.ports) (drop l.k l.classes) ≡ signal_classes l.ports l.classes;
}
