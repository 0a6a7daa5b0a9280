use Rattle.std.proofs.Common.{◌≡◌, ◌≤◌, map, take, length}
use Rattle.proof_joint.proofs.naming.least_apart.Given as goal

abbrev pub invariant-loop-k : goal.invariant-loop-k
invariant-loop-k l = (l.k ≤ length l.ys) × (take l.k (map (λ n. n.now) l.xs) ≡ take l.k (map (λ n. n.now) l.ys))
