use Rattle.proof_joint.proofs.Spreading.{IsSpreading}
use Rattle.proof_joint.proofs.differing.spread_bits.Given as goal

abbrev pub invariant-loop-k : goal.invariant-loop-k
invariant-loop-k l = IsSpreading l.order l.bits l.count l.k l.spread.items
