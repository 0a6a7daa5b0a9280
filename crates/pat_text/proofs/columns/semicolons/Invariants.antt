use Rattle.std.proofs.Common.{[], ◌∷◌, length}
use Rattle.vhdl_token.specs.declared.token.Sign.TheVariants as sign
use Rattle.grammar_theory.specs.declared.form.Form.TheVariants as form
use Rattle.grammar_theory.specs.Tokens.{code}
use Rattle.grammar_theory.specs.Outcome.{take_at, list_at}
use Rattle.pat_text.proofs.Loops.{Skipping}
use Rattle.pat_text.proofs.columns.semicolons.Given as goal

abbrev pub invariant-loop-cursor : goal.invariant-loop-cursor
invariant-loop-cursor l =
    Skipping (code (form.Sign sign.Semicolon) ∷ []) (take_at (form.Sign sign.Semicolon)) l.cursor (list_at (code (form.Sign sign.Semicolon) ∷ []) (take_at (form.Sign sign.Semicolon)) l.initial.cursor)

abbrev pub decreases-loop-cursor : goal.decreases-loop-cursor
decreases-loop-cursor l = length l.cursor.rest
