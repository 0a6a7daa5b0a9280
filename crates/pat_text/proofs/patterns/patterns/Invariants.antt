use Rattle.std.proofs.Common.{[], ◌∷◌, length}
use Rattle.vhdl_token.specs.declared.token.Sign.TheVariants as sign
use Rattle.grammar_theory.specs.declared.form.Form.TheVariants as form
use Rattle.grammar_theory.specs.Tokens.{code}
use Rattle.grammar_theory.specs.Outcome.{list_at}
use Rattle.grammar_theory.proofs.Listing.{Listed}
use Rattle.pat_text.specs.Reading.{pattern_at}
use Rattle.pat_text.proofs.patterns.patterns.Given as goal

abbrev pub invariant-loop-cursor : goal.invariant-loop-cursor
invariant-loop-cursor l = Listed (code (form.Sign sign.Less) ∷ []) (pattern_at l.columns) l.patterns.items l.cursor (list_at (code (form.Sign sign.Less) ∷ []) (pattern_at l.columns) l.initial.cursor)

abbrev pub decreases-loop-cursor : goal.decreases-loop-cursor
decreases-loop-cursor l = length l.cursor.rest
