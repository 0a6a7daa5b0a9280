use Rattle.std.proofs.Common.{map}
use Rattle.std.specs.Option.{option_copied}
use Rattle.proof_joint.proofs.Spreading.{IsGiving}
use Rattle.proof_joint.proofs.differing.given_bits.Given as goal

abbrev pub invariant-loop-name : goal.invariant-loop-name
invariant-loop-name l = IsGiving (option_copied l.clock) (map (λ n. n.now) l.name-items) l.held l.given.items l.name-index l.taken
