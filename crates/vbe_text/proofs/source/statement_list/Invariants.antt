use Rattle.std.proofs.Common.{[], ◌∷◌, length, map}
use Rattle.vhdl_token.specs.declared.keyword.Keyword.TheVariants as word
use Rattle.grammar_theory.specs.declared.form.Form.TheVariants as form
use Rattle.grammar_theory.specs.Tokens.{code}
use Rattle.grammar_theory.specs.Outcome.{list_at}
use Rattle.grammar_theory.proofs.Listing.{Listed}
use Rattle.vbe_text.specs.Source.{statement_view}
use Rattle.vbe_text.specs.VbeReading.{statement_at}
use Rattle.vbe_text.proofs.source.statement_list.Given as goal

abbrev pub invariant-loop-cursor : goal.invariant-loop-cursor
invariant-loop-cursor l = Listed (code (form.Keyword word.Assert) ∷ code form.Identifier ∷ []) (statement_at l.room) (map statement_view l.statements.items) l.cursor
    (list_at (code (form.Keyword word.Assert) ∷ code form.Identifier ∷ []) (statement_at l.room) l.initial.cursor)

abbrev pub decreases-loop-cursor : goal.decreases-loop-cursor
decreases-loop-cursor l = length l.cursor.rest
