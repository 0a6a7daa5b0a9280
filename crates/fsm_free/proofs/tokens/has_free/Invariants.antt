use Rattle.std.proofs.Common.{◌≡◌, false, length}
use Rattle.fsm_free.specs.declared.tokens.Place.TheVariants as place
use Rattle.fsm_free.specs.Tokens.{has_free}
use Rattle.fsm_free.proofs.tokens.has_free.Given as goal

abbrev pub invariant-loop-rest : goal.invariant-loop-rest
invariant-loop-rest l = has_free l.begins l.here l.rest ≡ has_free false place.Before l.tokens

abbrev pub decreases-loop-rest : goal.decreases-loop-rest
decreases-loop-rest l = length l.rest
