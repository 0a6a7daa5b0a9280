use Rattle.std.proofs.Common.{◌≡◌, ◌++◌, map, filter, drop}
use Rattle.machine_core.specs.Machine.{names_of}
use Rattle.proof_joint.specs.Apart.{has_direction}
use Rattle.proof_joint.proofs.naming.port_names.Given as goal

abbrev pub invariant-loop-port : goal.invariant-loop-port
invariant-loop-port l =
    map (λ n. n.now) l.names.items ++ names_of (filter (has_direction l.dir) (drop l.port-index l.ports)) ≡ names_of (filter (has_direction l.dir) l.ports)
