use Rattle.std.proofs.Common.{◌≡◌, false, length}
use Rattle.vbe_free.specs.Tokens.{leaves}
use Rattle.vbe_free.proofs.tokens.leaves.Given as goal

abbrev pub invariant-loop-rest : goal.invariant-loop-rest
invariant-loop-rest l = leaves l.begins l.rest ≡ leaves false l.tokens

abbrev pub decreases-loop-rest : goal.decreases-loop-rest
decreases-loop-rest l = length l.rest
