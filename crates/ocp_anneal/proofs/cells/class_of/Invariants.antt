use Rattle.std.proofs.Common.{◌≡◌, drop}
use Rattle.vlsi_base.specs.Names.{scalar}
use Rattle.machine_core.specs.Named.{is_same_name}
use Rattle.ocp_place.specs.Ports.{class_named}
use Rattle.ocp_anneal.proofs.cells.class_of.Given as goal

abbrev pub invariant-loop-k : goal.invariant-loop-k
invariant-loop-k l =
    class_named (λ p. is_same_name p.name (scalar l.text)) l.class (drop l.k l.ports) (drop l.k l.classes)
    ≡ class_named (λ p. is_same_name p.name (scalar l.text)) 0 l.ports l.classes
