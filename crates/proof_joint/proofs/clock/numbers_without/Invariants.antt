use Rattle.std.proofs.Common.{◌≡◌, ◌++◌, ◌-◌, map}
use Rattle.vlsi_base.specs.Range.{rising}
use Rattle.proof_joint.specs.Clock.{numbers_without}
use Rattle.proof_joint.proofs.Clocks.{number}
use Rattle.proof_joint.proofs.clock.numbers_without.Given as goal

abbrev pub invariant-loop-k : goal.invariant-loop-k
invariant-loop-k l = l.numbers.items ++ map (number l.place) (rising l.k (l.count - l.k)) ≡ numbers_without l.place l.count
