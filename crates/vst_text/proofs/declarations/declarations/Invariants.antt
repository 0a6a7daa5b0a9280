use Rattle.std.proofs.Common.{[], ◌∷◌, length}
use Rattle.vhdl_token.specs.declared.keyword.Keyword.TheVariants as word
use Rattle.grammar_theory.specs.declared.form.Form.TheVariants as form
use Rattle.grammar_theory.specs.Tokens.{code}
use Rattle.grammar_theory.specs.Outcome.{list_at}
use Rattle.grammar_theory.proofs.Listing.{Listed}
use Rattle.vst_text.specs.VstReading.{declaration_at}
use Rattle.vst_text.proofs.declarations.declarations.Given as goal

abbrev pub invariant-loop-cursor : goal.invariant-loop-cursor
invariant-loop-cursor l = Listed (code (form.Keyword word.Component) ∷ code (form.Keyword word.Signal) ∷ []) (declaration_at l.room) l.declarations.items l.cursor (list_at (code (form.Keyword word.Component) ∷ code (form.Keyword word.Signal) ∷ []) (declaration_at l.room) l.initial.cursor)

abbrev pub decreases-loop-cursor : goal.decreases-loop-cursor
decreases-loop-cursor l = length l.cursor.rest
