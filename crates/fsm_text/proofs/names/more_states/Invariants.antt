use Rattle.std.proofs.Common.{[], ◌∷◌, length}
use Rattle.vhdl_token.specs.declared.token.Sign.TheVariants as sign
use Rattle.grammar_theory.specs.declared.form.Form.TheVariants as form
use Rattle.grammar_theory.specs.Tokens.{code}
use Rattle.grammar_theory.specs.Outcome.{list_at, with_front}
use Rattle.grammar_theory.proofs.Listing.{Listed}
use Rattle.fsm_text.specs.FsmReading.{next_state_at}
use Rattle.fsm_text.proofs.names.more_states.Given as goal

abbrev pub invariant-loop-cursor : goal.invariant-loop-cursor
invariant-loop-cursor l = Listed (code (form.Sign sign.Bar) ∷ []) next_state_at l.states.items l.cursor (with_front (l.fn.first ∷ []) (list_at (code (form.Sign sign.Bar) ∷ []) next_state_at l.initial.cursor))

abbrev pub decreases-loop-cursor : goal.decreases-loop-cursor
decreases-loop-cursor l = length l.cursor.rest
