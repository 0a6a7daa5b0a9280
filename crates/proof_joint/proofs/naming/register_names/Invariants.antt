use Rattle.std.proofs.Common.{◌≡◌, ◌++◌, map, drop}
use Rattle.proof_joint.proofs.naming.register_names.Given as goal

abbrev pub invariant-loop-register : goal.invariant-loop-register
invariant-loop-register l =
    map (λ n. n.now) l.names.items ++ map (λ r. r.name) (drop l.register-index l.registers) ≡ map (λ r. r.name) l.registers
