use Rattle.std.proofs.Common.{[], ◌∷◌, length}
use Rattle.vhdl_token.specs.declared.keyword.Keyword.TheVariants as word
use Rattle.vhdl_token.specs.declared.token.Sign.TheVariants as sign
use Rattle.grammar_theory.specs.declared.form.Form.TheVariants as form
use Rattle.grammar_theory.specs.Tokens.{code}
use Rattle.grammar_theory.specs.Outcome.{list_at, with_front}
use Rattle.grammar_theory.proofs.Listing.{Listed}
use Rattle.vhdl_front.specs.EntityReading.{another_at}
use Rattle.vhdl_front.proofs.cursor.Cursor.more_names.Given as goal

abbrev pub invariant-loop-self : goal.invariant-loop-self
invariant-loop-self l = Listed (code (form.Sign sign.Comma) ∷ []) (another_at l.line) l.names.items l.self (with_front (l.fn.first ∷ []) (list_at (code (form.Sign sign.Comma) ∷ []) (another_at l.line) l.initial.self))

abbrev pub decreases-loop-self : goal.decreases-loop-self
decreases-loop-self l = length l.self.rest
