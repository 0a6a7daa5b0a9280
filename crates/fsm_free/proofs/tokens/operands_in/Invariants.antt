use Rattle.std.proofs.Common.{◌≡◌, ◌++◌, false, length}
use Rattle.fsm_free.specs.declared.tokens.Place.TheVariants as place
use Rattle.fsm_free.specs.Tokens.{free_operands}
use Rattle.fsm_free.proofs.tokens.operands_in.Given as goal

abbrev pub invariant-loop-rest : goal.invariant-loop-rest
invariant-loop-rest l = l.made.items ++ free_operands l.begins l.here l.rest ≡ free_operands false place.Before l.tokens

abbrev pub decreases-loop-rest : goal.decreases-loop-rest
decreases-loop-rest l = length l.rest
