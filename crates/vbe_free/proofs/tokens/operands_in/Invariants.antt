use Rattle.std.proofs.Common.{◌≡◌, ◌++◌, false, length}
use Rattle.vbe_free.specs.Tokens.{free_operands}
use Rattle.vbe_free.proofs.tokens.operands_in.Given as goal

abbrev pub invariant-loop-rest : goal.invariant-loop-rest
invariant-loop-rest l = l.made.items ++ free_operands l.begins l.rest ≡ free_operands false l.tokens

abbrev pub decreases-loop-rest : goal.decreases-loop-rest
decreases-loop-rest l = length l.rest
