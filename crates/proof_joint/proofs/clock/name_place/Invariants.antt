use Rattle.std.proofs.Common.{◌≡◌, ◌+◌, map, drop}
use Rattle.proof_joint.specs.Clock.{name_place}
use Rattle.proof_joint.proofs.clock.name_place.Given as goal

abbrev pub invariant-loop-k : goal.invariant-loop-k
invariant-loop-k l = l.k + name_place l.wanted (map (λ n. n.now) (drop l.k l.names)) ≡ name_place l.wanted (map (λ n. n.now) l.names)
